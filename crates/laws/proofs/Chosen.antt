-- What a branch of the code says of a conditional, by what its test gave.
use Prim.Native.Nat.{ℕ}
use mathlib.Core.Path.{◌≡◌, refl, sym, ap, ◌∙◌}
use mathlib.Core.Bool.{Bool, true, false, cond}
use borrow.Author.Tests.{eq-eqb}
use lib.Dec.{eqb}

pub chosen_yes : {r : Bool} {a : ℕ} (b : Bool) (u v : ℕ) → r ≡ true → r ≡ b → a ≡ u → a ≡ cond b u v
chosen_yes b u v t e q = q ∙ ap (λ c. cond c u v) (sym t ∙ e)

pub chosen_no : {r : Bool} {a : ℕ} (b : Bool) (u v : ℕ) → r ≡ false → r ≡ b → a ≡ v → a ≡ cond b u v
chosen_no b u v t e q = q ∙ ap (λ c. cond c u v) (sym t ∙ e)

-- a number is itself
pub eqb_same : (n : ℕ) → eqb n n ≡ true
eqb_same n = eq-eqb n n refl
