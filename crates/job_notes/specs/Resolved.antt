-- Between crates: the numbers of names, item by item, and where the actions of steps stand.
use Rattle.std.specs.Prelude.{ℕ, ◌≤◌, ◌<◌, ◌≡◌, List, [], length, get_or, drop}
use Rattle.grammar.specs.Said.{Role, name, Item}
use Rattle.grammar.specs.Tree.{Word}
use Rattle.notes.specs.Notes.{notes_most, nothing}
use Rattle.supplied.specs.Names.{kind_of, names_of, number_of}
use Rattle.supplied.specs.Plan.{Line, behind}

-- the number of each name among those of its kind
pub record Numbered (is : List Item) (numbers : List ℕ) : Type 0 where
  pub size : length numbers ≡ notes_most
  pub each :
      (k : ℕ) (r : Role) (w : Word) → (get_or is k nothing).said ≡ name r w → get_or numbers k 0 ≡ number_of w (names_of (kind_of r) is)

-- what stands behind the plan's last line
abbrev pub no_line : Line
no_line = record { start = 0; action = []; duration = 0; line = 0 }

-- the item behind the name of each step's action
pub record Acting (is : List Item) (ls : List Line) (acts : List ℕ) : Type 0 where
  pub size : length acts ≡ 64
  pub within : (s : ℕ) → s < length ls → get_or acts s 0 ≤ length is
  pub each : (s : ℕ) → s < length ls → behind (get_or ls s no_line).action is ≡ drop (get_or acts s 0) is
