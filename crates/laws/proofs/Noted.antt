-- Laws of a noted lowest: nothing met, one more met, two noted ones together, and all met.
use Prim.Native.Nat.{ℕ, min, ◌≤◌, ◌<◌}
use mathlib.Core.Path.{◌≡◌, sym, ap, ◌∙◌}
use mathlib.Core.Bool.{Bool, true, false, cond}
use mathlib.Core.Logic.{◌⊎◌, ⊎_elim}
use native.Mathlib.Decide.{dec_lt}
use native.Mathlib.Omega.{arith}
use Rattle.laws.specs.Search.{lowest}
use Rattle.laws.proofs.Search.{either, contrary, lowest_is}
use Rattle.laws.specs.Noted.{Noted}

module _ {n : ℕ} {p : ℕ → Bool} where
  pub noted_start : (Met : ℕ → Type 0) → ((k : ℕ) → Met k → ⊥) → Noted n p Met n
  noted_start Met none =
      record { within = omega arith; passes = λ l. absurd (let z : n < n = l in omega arith); least = λ k l met _. absurd (none k met) }

  -- what is met is among what was met
  pub noted_when : {A C : ℕ → Type 0} {best : ℕ} → Noted n p A best → ((k : ℕ) → k < n → C k → A k) → Noted n p C best
  noted_when so among = record { within = so.within; passes = so.passes; least = λ k l met t. so.least k l (among k l met) t }

  -- the lower of two, for what either has met
  pub noted_both :
      {A B C : ℕ → Type 0} {a b best : ℕ} → best ≡ min a b → Noted n p A a → Noted n p B b → ((k : ℕ) → k < n → C k → A k ⊎ B k)
      → Noted n p C best
  noted_both {A} {B} {C} {a} {b} {best} e left right split =
      record {
        within = omega (arith, left.within, right.within, e);
        passes = λ l.
            elim (dec_lt a b) [
              | yes g ↦ let q : best ≡ a = omega arith in ap p q ∙ left.passes (omega arith)
              | no g ↦ let q : best ≡ b = omega arith in ap p q ∙ right.passes (omega arith)
            ];
        least = λ k l met t.
            ⊎_elim
            (λ (f : A k). let g : a ≤ k = left.least k l f t in omega arith)
            (λ (f : B k). let g : b ≤ k = right.least k l f t in omega arith)
            (split k l met);
      }

  -- one more is met; r is what the code's test gave
  pub noted_more :
      {A C : ℕ → Type 0} {best number next : ℕ} {r : Bool} → next ≡ cond r (min best number) best → r ≡ p number → number < n
      → Noted n p A best
      → ((k : ℕ) → k < n → C k → A k ⊎ (k ≡ number))
      → Noted n p C next
  noted_more {A} {C} {best} {number} {next} {r} e q h so split =
      ⊎_elim
      (λ (t : r ≡ true).
      noted_both (e ∙ ap (λ b. cond b (min best number) best) t) so
      (record { within = omega arith; passes = λ _. sym q ∙ t; least = λ k l g _. omega arith }) split)
      (λ (f : r ≡ false).
      let same : next ≡ best = e ∙ ap (λ b. cond b (min best number) best) f in
      record {
        within = omega (arith, so.within);
        passes = λ l. ap p same ∙ so.passes (omega arith);
        least = λ k l met t.
            ⊎_elim
            (λ (g : A k). let i : best ≤ k = so.least k l g t in omega arith)
            (λ (g : k ≡ number). contrary t (ap p g ∙ sym q ∙ f))
            (split k l met);
      })
      (either r)

  pub noted_lowest : {A : ℕ → Type 0} {best : ℕ} → Noted n p A best → ((k : ℕ) → k < n → A k) → best ≡ lowest n p
  noted_lowest {A} {best} so all =
      sym
      (lowest_is p n best so.within
      (λ j l.
      ⊎_elim
      (λ (t : p j ≡ true).
      let i : best ≤ n = so.within in
      let g : best ≤ j = so.least j (omega arith) (all j (omega arith)) t in
      absurd (omega arith))
      (λ (f : p j ≡ false). f)
      (either (p j)))
      so.passes)
