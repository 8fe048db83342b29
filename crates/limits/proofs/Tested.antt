-- What the tests of the code say.
use Prim.Native.Nat.{ℕ, ◌≤◌}
use mathlib.Core.Path.{◌≡◌}
use mathlib.Core.Bool.{true, false, ◌||◌}
use mathlib.Core.Logic.{⊎_elim}
use native.Mathlib.Omega.{arith}
use borrow.Author.Tests.{ltb-true, ltb-false, eqb-true, eqb-false}
use lib.Dec.{ltb, eqb}
use Rattle.laws.proofs.Search.{or_both, or_out}

-- whether a link is a timed fact's, behind so many effects
module _ (link effects none : ℕ) where
  pub is_timed : (ltb link effects || eqb link none) ≡ false → (effects ≤ link) × (link ≡ none → ⊥)
  is_timed e =
      let b = or_both (ltb link effects) (eqb link none) e in
      (ltb-false link effects b.0, eqb-false _ _ b.1)

  pub no_timed : (ltb link effects || eqb link none) ≡ true → effects ≤ link → (link ≡ none → ⊥) → ⊥
  no_timed e l d =
      ⊎_elim
      (λ (t : ltb link effects ≡ true). absurd (omega (arith, ltb-true link effects t)))
      (λ (t : eqb link none ≡ true). d (eqb-true _ _ t))
      (or_out _ _ e)
