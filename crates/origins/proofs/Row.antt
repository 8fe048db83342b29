-- A row of the table, raised entry by entry to what is due there.
use Prim.Native.Nat.{ℕ, ◌+◌, ◌-◌, ◌<◌, max}
use mathlib.Core.Path.{◌≡◌, sym, ap, subst, ◌∙◌}
use mathlib.Core.List.{List}
use native.Mathlib.Decide.{ℕ_discrete, dec_lt, dec_le}
use native.Mathlib.Omega.{arith}
use lib.ListN.{length, get_or, set, length-set}
use lib.Seq.{get_or-set_same, get_or-set_other}
use Rattle.origins.specs.Points.{Rowed}

-- what holds of two numbers holds of the larger
pub of_larger : (P : ℕ → Type 0) (a b : ℕ) → P a → P b → P (max a b)
of_larger P a b u v =
    elim (dec_le a b) [
      | yes l ↦ let same : b ≡ max a b = omega arith in subst P same v
      | no l ↦ let same : a ≡ max a b = omega arith in subst P same u
    ]

module _ (row : ℕ) (due : ℕ → ℕ) (before : List ℕ) where
  pub rowed_more :
      (now : List ℕ) (k : ℕ) {v : ℕ} → row + k < length before → Rowed row due before now k → v ≡ max (get_or now (row + k) 0) (due k)
      → Rowed row due before (set now (row + k) v) (k + 1)
  rowed_more now k {v} within w e =
      record {
        size = length-set now (row + k) v ∙ w.size;
        raised = raised;
        rest = λ p d. get_or-set_other now (row + k) p v 0 (d k (omega arith)) ∙ w.rest p (λ j h. d j (omega arith));
      }
    where
      raised : (j : ℕ) → j < k + 1 → get_or (set now (row + k) v) (row + j) 0 ≡ max (get_or before (row + j) 0) (due j)
      raised j h =
          elim (ℕ_discrete j k) [
            | yes q ↦
                subst (λ i. get_or (set now (row + k) v) (row + i) 0 ≡ max (get_or before (row + i) 0) (due i)) (sym q)
                (get_or-set_same now (row + k) v 0 (omega (arith, w.size))
                ∙ e
                ∙ ap (λ u. max u (due k)) (w.rest (row + k) (λ i l r. absurd (omega arith))))
            | no q ↦ get_or-set_other now (row + k) (row + j) v 0 (λ r. q (omega arith)) ∙ w.raised j (omega arith)
          ]

-- what holds of the entries before and of what is due holds of all entries
pub rowed_each :
    {row k : ℕ} {due : ℕ → ℕ} {before now : List ℕ} → Rowed row due before now k → (P : ℕ → Type 0) → ((q : ℕ) → P (get_or before q 0))
    → ((j : ℕ) → P (due j))
    → (p : ℕ) → P (get_or now p 0)
rowed_each {row} {k} {due} {before} {now} w P old new p =
    elim (dec_lt p row) [
      | yes l ↦ subst P (sym (w.rest p (λ j h r. absurd (omega arith)))) (old p)
      | no l ↦
          elim (dec_lt p (row + k)) [
            | yes r ↦
                let there : p ≡ row + (p - row) = omega arith in
                subst P (sym (ap (λ j. get_or now j 0) there ∙ w.raised (p - row) (omega arith)))
                (of_larger P _ _ (old (row + (p - row))) (new (p - row)))
            | no r ↦ subst P (sym (w.rest p (λ j h s. absurd (omega arith)))) (old p)
          ]
    ]
