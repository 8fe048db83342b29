-- The first line of a plan that differs is refused; where none does, the rest decides.
use Prim.Native.Nat.{ℕ, zero, suc, ◌<◌}
use mathlib.Core.Path.{◌≡◌, refl}
use mathlib.Core.Bool.{true, false}
use mathlib.Core.List.{List, [], ◌∷◌}
use native.Mathlib.Omega.{arith}
use lib.ListN.{length, get_or}
use Rattle.std.specs.Prelude.{Err}
use Rattle.grammar.specs.Said.{Item}
use Rattle.supplied.specs.Plan.{Line, differs}
use Rattle.job_notes.specs.Resolved.{no_line}
use Rattle.texts_answer.specs.Answer.{TextsAnswer}
use Rattle.texts_answer.specs.declared.TextsRefusal.TheVariants.{PlanDiffers}
use Rattle.texts_answer.specs.FromTexts.{lined}

module _ (is : List Item) (a : TextsAnswer) where
  pub line_differs :
      (ls : List Line) (k : ℕ) → k < length ls → ((j : ℕ) → j < k → differs is (get_or ls j no_line) ≡ false)
      → differs is (get_or ls k no_line) ≡ true
      → lined is ls a ≡ Err (PlanDiffers (get_or ls k no_line).line)
  unfolding lined
  line_differs [] k l before e = absurd (omega arith)
  line_differs (x ∷ ls) zero l before e = rw e
  line_differs (x ∷ ls) (suc k) l before e =
      rw (before 0 (omega arith)) (line_differs ls k (omega arith) (λ j h. before (suc j) (omega arith)) e)

  pub no_line_differs :
      (ls : List Line) → ((j : ℕ) → j < length ls → differs is (get_or ls j no_line) ≡ false) → lined is ls a ≡ a
  unfolding lined
  no_line_differs [] all = refl
  no_line_differs (x ∷ ls) all = rw (all 0 (omega arith)) (no_line_differs ls (λ j h. all (suc j) (omega arith)))
