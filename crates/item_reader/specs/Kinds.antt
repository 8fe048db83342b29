-- Between crates: which items are read, and what a change at the end or at the start is called.
use Rattle.std.specs.Prelude.{ℕ, ◌+◌, Bool, true, false, cond}
use Rattle.grammar.specs.Said.{Point, start, end}
use Rattle.grammar.specs.Tree as tree
use Rattle.notes.specs.declared.Place as noted
use Rattle.notes.specs.declared.Place.TheVariants.{SetAtStart, SetAtEnd}
use Rattle.item_reader.specs.declared.nested.Items.{Items}
use Rattle.item_reader.specs.declared.nested.Items.TheVariants.{Conditions, Effects, Goals}

abbrev pub kind_of : Items → tree.Kind
kind_of Conditions = tree.conditions
kind_of Effects = tree.effects
kind_of Goals = tree.goals

-- the end, or the start
abbrev pub point_of : Bool → Point
point_of true = end
point_of false = start

abbrev pub set_place : Bool → noted.Place
set_place true = SetAtEnd
set_place false = SetAtStart

abbrev pub later : ℕ → Bool → ℕ
later first last = first + cond last 1 0
