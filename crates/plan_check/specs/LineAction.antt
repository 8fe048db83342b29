-- Inner: the action of one line, and what has been found when some lines are passed.
use Rattle.std.specs.Prelude.{ℕ, ◌≤◌, ◌<◌, ◌≡◌, true, false, List, Option, Some, None, length, get_or, drop}
use Rattle.grammar.specs.Said.{Item}
use Rattle.notes.specs.Notes.{items_in}
use Rattle.supplied.specs.Plan.{Line, behind, differs}
use Rattle.plan_check.specs.Checked.{line_at}

-- an item stands behind the name of a line's action, which the line agrees with
pub record Acts (is : List Item) (l : Line) (r : ℕ) : Type 0 where
  pub within : r ≤ length is
  pub same : differs is l ≡ false
  pub behind : behind l.action is ≡ drop r is

-- that item, or that the line differs
abbrev pub ActionOf : List Item → Line → Option ℕ → Type 0
ActionOf is l (Some r) = Acts is l r
ActionOf is l None = differs is l ≡ true

pub record Upto (text said plan lines acts : List ℕ) (s : ℕ) : Type 0 where
  pub size : length acts ≡ 64
  pub same : (j : ℕ) → j < s → differs (items_in text said) (line_at plan lines j) ≡ false
  pub act : (j : ℕ) → j < s → j < 64 → get_or acts j 0 ≤ length (items_in text said)
  pub behind : (j : ℕ) → j < s → j < 64 → behind (line_at plan lines j).action (items_in text said) ≡ drop (get_or acts j 0) (items_in text said)
