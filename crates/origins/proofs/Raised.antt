-- A table is raised by one order at a time.
use Prim.Native.Nat.{ℕ, ◌+◌, ◌*◌, ◌≤◌, ◌<◌, max}
use mathlib.Core.Path.{◌≡◌, sym, ap, ap₂, subst, ◌∙◌}
use mathlib.Core.Bool.{◌&&◌, cond, and-false}
use mathlib.Core.List.{List}
use native.Mathlib.Decide.{ℕ_discrete, dec_lt}
use native.Mathlib.Omega.{arith}
use borrow.Author.Tests.{ne_eqb}
use lib.Dec.{eqb}
use lib.ListN.{length, get_or, set, length-set}
use lib.Seq.{get_or-set_same, get_or-set_other}
use Rattle.order_file.specs.Table.{gap_in, gap_of_entry, row_width, table_size, table_bias, empty_limit}
use Rattle.origins.specs.Raised.{single, EntryKnown, Raised}
use Rattle.origins.proofs.Row.{of_larger}
use Rattle.laws.proofs.Chosen.{eqb_same}
use Rattle.order_file.specs.Contents.{step_limit, most_gap}

-- what one order says of the entry at a and b
pub single_at : (i k gap : ℕ) → single i k gap i k ≡ gap
single_at i k gap = ap (λ t. cond t gap 0) (ap₂ ◌&&◌ (eqb_same i) (eqb_same k))

pub single_is : (i k gap a b : ℕ) → i ≡ a → k ≡ b → single i k gap a b ≡ gap
single_is i k gap a b p q = rw (← p, ← q) (single_at i k gap)

pub single_off : (i k gap a b : ℕ) → (i ≡ a → k ≡ b → ⊥) → single i k gap a b ≡ 0
single_off i k gap a b d =
    elim (ℕ_discrete i a) [
      | yes e ↦ ap (λ t. cond t gap 0) (ap (λ t. eqb i a && t) (ne_eqb k b (d e)) ∙ and-false (eqb i a))
      | no e ↦ ap (λ t. cond (t && eqb k b) gap 0) (ne_eqb i a e)
    ]

-- An order into a table: the larger of it and what is there.
module _ (gaps : List ℕ) (i k entry v : ℕ) where
  abbrev gap : ℕ
  gap = gap_of_entry entry

  abbrev old : ℕ
  old = get_or gaps (row_width * i + k) 0

  pub raised_put :
      i < row_width → k < row_width → v ≡ max old entry → EntryKnown entry → length gaps ≡ table_size
      → Raised row_width (single i k gap) gaps (set gaps (row_width * i + k) v)
  raised_put h small e known n =
      record {
        whole = λ g. record {
          size = length-set gaps (row_width * i + k) v ∙ n;
          most = λ p. either p (λ u. u ≤ most_gap + table_bias) known.most g.most;
          low = λ p. either p (λ u. u ≤ table_bias → u ≤ empty_limit) known.low g.low;
        };
        below = below;
        rest =
            λ a b r d w.
            ap gap_of_entry (get_or-set_other gaps (row_width * i + k) (row_width * a + b) v 0 (λ q. w (omega arith) (omega arith)));
      }
    where
      here : get_or (set gaps (row_width * i + k) v) (row_width * i + k) 0 ≡ v
      here = get_or-set_same gaps (row_width * i + k) v 0 (omega arith)

      -- what holds of the entry and of what was there holds
      either : (p : ℕ) (P : ℕ → Type 0) → P entry → ((q : ℕ) → P (get_or gaps q 0)) → P (get_or (set gaps (row_width * i + k) v) p 0)
      either p P new was =
          elim (ℕ_discrete p (row_width * i + k)) [
            | yes q ↦
                subst P (sym (ap (λ j. get_or (set gaps (row_width * i + k) v) j 0) q ∙ here ∙ e)) (of_larger P old entry (was (row_width * i + k)) new)
            | no q ↦ subst P (sym (get_or-set_other gaps (row_width * i + k) p v 0 q)) (was p)
          ]

      below :
          (a b : ℕ) → a < row_width → b < row_width → (a ≡ b → ⊥)
          → gap_in (set gaps (row_width * i + k) v) a b ≡ max (gap_in gaps a b) (single i k gap a b)
      below a b r s d =
          elim (ℕ_discrete (row_width * a + b) (row_width * i + k)) [
            | yes q ↦
                let u : a ≡ i = omega arith in
                let v : b ≡ k = omega arith in
                rw (u, v, single_at i k gap) (omega (arith, here, e))
            | no q ↦
                omega (
                  arith,
                  get_or-set_other gaps (row_width * i + k) (row_width * a + b) v 0 q,
                  single_off i k gap a b (λ s t. q (omega arith)),
                )
          ]

-- an order between steps below n
raised_narrow :
    (n i k gap : ℕ) (before after : List ℕ) → n ≤ step_limit → i < n → k < n → Raised row_width (single i k gap) before after
    → Raised n (single i k gap) before after
raised_narrow n i k gap before after m h l w =
    record {
      whole = w.whole;
      below = λ a b r s apart. w.below a b (omega arith) (omega arith) apart;
      rest = λ a b r apart d.
          elim (dec_lt a row_width) [
            | yes s ↦ omega (arith, w.below a b s r apart, single_off i k gap a b (λ p q. d (omega arith) (omega arith)))
            | no s ↦ w.rest a b r apart (λ t _. s t)
          ];
    }

module _ (n : ℕ) (f g : ℕ → ℕ → ℕ) (before : List ℕ) where
  -- gaps that agree raise alike
  pub raised_is : (after : List ℕ) → Raised n f before after → ((i k : ℕ) → i < n → k < n → f i k ≡ g i k) → Raised n g before after
  raised_is after w e =
      record {
        whole = w.whole;
        below = λ i k h l d. w.below i k h l d ∙ ap (max (gap_in before i k)) (e i k h l);
        rest = w.rest;
      }

-- by one order, which f names
pub raised_one :
    (n : ℕ) (f : ℕ → ℕ → ℕ) (a b gap : ℕ) (before after : List ℕ) → n ≤ step_limit → a < n → b < n
    → Raised row_width (single a b gap) before after
    → ((i k : ℕ) → single a b gap i k ≡ f i k)
    → Raised n f before after
raised_one n f a b gap before after m h l w e =
    raised_is n (single a b gap) f before after (raised_narrow n a b gap before after m h l w) (λ i k _ _. e i k)
