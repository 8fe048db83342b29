-- What a loop has raised is the largest of its orders so far, two rules one after the other raise by the larger of their gaps, and an empty
-- table raised by all rules is the table of gaps.
use Prim.Native.Nat.{ℕ, ◌+◌, ◌*◌, ◌/◌, ◌≤◌, ◌<◌, max}
use mathlib.Core.Path.{◌≡◌, refl, sym, ap, subst, ◌∙◌}
use mathlib.Core.Bool.{cond}
use mathlib.Core.List.{List}
use native.Mathlib.Decide.{ℕ_discrete, dec_lt}
use native.Mathlib.Numerals.{add-one}
use native.Mathlib.Omega.{arith}
use borrow.Author.Tests.{eq-eqb, ne_eqb}
use lib.Dec.{eqb}
use lib.ListN.{length, get_or, set, length-set}
use lib.Seq.{get_or-set_same, get_or-set_other}
use Rattle.laws.specs.Fold.{largest}
use Rattle.order_file.specs.Table.{gap_in, gap_of_entry, Gaps, row_width, table_size, table_bias, empty_limit, no_order}
use Rattle.order_file.specs.Contents.{step_limit, most_gap}
use Rattle.origins.specs.Raised.{Raised}
use Rattle.gaps.specs.Table.{TableOf}
use Rattle.gaps.specs.Rules.{Cleared}

-- raised twice, an entry is raised by the larger gap
joins : (a b c d e : ℕ) → c ≡ max b d → a ≡ max c e → a ≡ max b (max d e)
joins a b c d e p q = omega arith

pub raised_none : (n : ℕ) (f : ℕ → ℕ → ℕ) (gaps : List ℕ) → ((i k : ℕ) → i < n → f i k ≡ 0) → Raised n f gaps gaps
raised_none n f gaps z =
    record { whole = λ g. g; below = λ i k h l d. omega (arith, z i k h); rest = λ i k h d out. refl }

module _ (n : ℕ) (f g : ℕ → ℕ → ℕ) (before : List ℕ) where
  -- first by f, then by g
  pub raised_then :
      (mid after : List ℕ) → Raised n f before mid → Raised n g mid after → Raised n (λ i k. max (f i k) (g i k)) before after
  raised_then mid after v w =
      record {
        whole = λ h. w.whole (v.whole h);
        below = λ i k h l d.
            joins (gap_in after i k) (gap_in before i k) (gap_in mid i k) (f i k) (g i k) (v.below i k h l d) (w.below i k h l d);
        rest = λ i k h d out. w.rest i k h d out ∙ v.rest i k h d out;
      }

-- A loop over j raises by order i k j in turn.
module _ (n : ℕ) (order : ℕ → ℕ → ℕ → ℕ) (before : List ℕ) where
  pub raised_start : Raised n (λ i k. largest 0 (order i k)) before before
  unfolding largest
  raised_start = raised_none n (λ i k. largest 0 (order i k)) before (λ i k _. refl)

  pub raised_more :
      (j : ℕ) (mid after : List ℕ) → Raised n (λ i k. largest j (order i k)) before mid → Raised n (λ i k. order i k j) mid after
      → Raised n (λ i k. largest (j + 1) (order i k)) before after
  unfolding largest
  raised_more j mid after v w = rw add-one (raised_then n (λ i k. largest j (order i k)) (λ i k. order i k j) before mid after v w)

  pub raised_end :
      (count j : ℕ) (after : List ℕ) → Raised n (λ i k. largest j (order i k)) before after → j ≤ count → count ≤ j
      → Raised n (λ i k. largest count (order i k)) before after
  raised_end count j after w h g = let q : j ≡ count = omega arith in rw q at w

-- an empty table, and what it is when it was raised
pub empty_gaps : (gaps : List ℕ) → length gaps ≡ table_size → ((p : ℕ) → get_or gaps p 0 ≡ 0) → Gaps gaps
empty_gaps gaps l z = record { size = l; most = λ p. omega (arith, z p); low = λ p _. omega (arith, z p) }

-- own entries cleared one by one
module _ (before : List ℕ) where
  pub cleared_more :
      (i : ℕ) (mid : List ℕ) → i < row_width → length before ≡ table_size → Cleared i before mid
      → Cleared (i + 1) before (set mid (row_width * i + i) no_order)
  cleared_more i mid h n w =
      record {
        size = length-set mid (row_width * i + i) no_order ∙ w.size;
        own = λ j l.
            elim (ℕ_discrete j i) [
              | yes q ↦
                  subst (λ a. get_or (set mid (row_width * i + i) no_order) (row_width * a + a) 0 ≡ no_order) (sym q)
                  (get_or-set_same mid (row_width * i + i) no_order 0 (omega (arith, w.size)))
              | no q ↦ get_or-set_other mid (row_width * i + i) (row_width * j + j) no_order 0 (λ r. q (omega arith)) ∙ w.own j (omega arith)
            ];
        rest = λ p d. get_or-set_other mid (row_width * i + i) p no_order 0 (d i (omega arith)) ∙ w.rest p (λ j l. d j (omega arith));
      }

-- an empty table, raised and then cleared of own entries
pub table_of :
    (n : ℕ) (f : ℕ → ℕ → ℕ) (before mid after : List ℕ) → n ≤ step_limit → Raised n f before mid → Cleared row_width mid after
    → length before ≡ table_size
    → ((p : ℕ) → get_or before p 0 ≡ 0)
    → TableOf n (λ i k. cond (eqb i k) 0 (f i k)) after
table_of n f before mid after few w clear l z =
    record {
      whole = record {
        size = clear.size ∙ whole.size;
        most = λ p. each p (λ v. v ≤ most_gap + table_bias) (omega arith) whole.most;
        low = λ p. each p (λ v. v ≤ table_bias → v ≤ empty_limit) (λ h. omega arith) whole.low;
      };
      below = λ i k h g.
          elim (ℕ_discrete i k) [
            | yes q ↦ rw (eq-eqb i k q) (none i k (omega arith) q)
            | no q ↦ rw (ne_eqb i k q) (omega (arith, same i k (omega arith) q, w.below i k h g q, z (row_width * i + k)))
          ];
      rest = λ i k h d.
          elim (ℕ_discrete i k) [
            | yes q ↦ none i k h q
            | no q ↦ omega (arith, same i k h q, w.rest i k h q d, z (row_width * i + k))
          ];
    }
  where
    whole : Gaps mid
    whole = w.whole (empty_gaps before l z)

    none : (i k : ℕ) → k < row_width → i ≡ k → gap_in after i k ≡ 0
    none i k h q = subst (λ a. gap_in after a k ≡ 0) (sym q) (omega (arith, clear.own k h))

    same : (i k : ℕ) → k < row_width → (i ≡ k → ⊥) → gap_in after i k ≡ gap_in mid i k
    same i k h q = ap gap_of_entry (clear.rest (row_width * i + k) (λ j l e. q (omega arith)))

    -- what holds of none and of every entry before holds
    each : (p : ℕ) (P : ℕ → Type 0) → P 0 → ((q : ℕ) → P (get_or mid q 0)) → P (get_or after p 0)
    each p P new was =
        let i : ℕ = p / (row_width + 1) in
        elim (dec_lt i row_width) [
          | yes l ↦
              elim (ℕ_discrete p (row_width * i + i)) [
                | yes q ↦ subst P (sym (ap (λ j. get_or after j 0) q ∙ clear.own i l)) new
                | no q ↦ subst P (sym (clear.rest p (λ j h e. q (omega arith)))) (was p)
              ]
          | no l ↦ subst P (sym (clear.rest p (λ j h e. l (omega arith)))) (was p)
        ]
