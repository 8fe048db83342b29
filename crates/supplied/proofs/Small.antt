-- Parts of a text whose numbers are small, and what is read off them.
use Prim.Native.Nat.{◌<◌}
use mathlib.Core.Path.{◌≡◌}
use mathlib.Core.Bool.{true, false}
use mathlib.Core.Logic.{⊎_elim}
use mathlib.Core.List.{List, [], ◌∷◌}
use native.Mathlib.Omega.{arith}
use Rattle.laws.proofs.Search.{either}
use Rattle.grammar.specs.Said.{Item}
use Rattle.grammar.specs.Tree.{Word}
use Rattle.supplied.specs.Plan.{Line, is_action, behind, leading, lines_of}
use Rattle.supplied.specs.Small.{Small}
use Rattle.supplied.specs.Records.{in_action, body}
use Rattle.supplied.specs.Job.{lists_fact, initially, lists_level, amount_of}
use Rattle.supplied.proofs.Every.{Every}

pub small_leading : (is : List Item) → Small is → leading is < 1000000000
unfolding leading
small_leading [] s = omega arith
small_leading (i ∷ is) s = s.0

pub small_body : (is : List Item) → Small is → Small (body is)
unfolding body
small_body [] s = tt
small_body (i ∷ is) s =
    ⊎_elim
    (λ (t : in_action i.said ≡ true). rw t (s.0, small_body is s.1))
    (λ (f : in_action i.said ≡ false). rw f tt)
    (either (in_action i.said))

pub small_behind : (w : Word) (is : List Item) → Small is → Small (behind w is)
unfolding behind
small_behind w [] s = tt
small_behind w (i ∷ is) s =
    ⊎_elim
    (λ (t : is_action w i.said ≡ true). rw t s.1)
    (λ (f : is_action w i.said ≡ false). rw f (small_behind w is s.1))
    (either (is_action w i.said))

pub small_amount : (is : List Item) (v : Word) → Small is → amount_of is v < 1000000000
unfolding amount_of
small_amount [] v s = omega arith
small_amount (i ∷ is) v s =
    ⊎_elim
    (λ (t : lists_level v i.said ≡ true). rw t (small_leading is s.1))
    (λ (f : lists_level v i.said ≡ false). rw f (small_amount is v s.1))
    (either (lists_level v i.said))

pub small_initial : (is : List Item) (v : Word) → initially is v < 256
unfolding initially
small_initial [] v = omega arith
small_initial (i ∷ is) v =
    ⊎_elim
    (λ (t : lists_fact v i.said ≡ true). rw t (omega arith))
    (λ (f : lists_fact v i.said ≡ false). rw f (small_initial is v))
    (either (lists_fact v i.said))

pub record SmallLine (l : Line) : Type 0 where
  pub start : l.start < 1000000000
  pub duration : l.duration < 1000000000

pub small_lines : (plan : List Item) → Small plan → Every SmallLine (lines_of plan)
unfolding lines_of
small_lines [] s = tt
small_lines (a ∷ []) s = tt
small_lines (a ∷ b ∷ []) s = tt
small_lines (a ∷ b ∷ c ∷ is) s = (record { start = s.0; duration = s.1.1.0 }, small_lines is s.1.1.1)
