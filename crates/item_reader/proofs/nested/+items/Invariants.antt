-- The measure is the depth that is left: two for each (and ..) that may still stand inside, one more for a list. The list's loop ends
-- because each item takes bytes, or leaves a fault.
use Rattle.std.proofs.Common.{false, ◌+◌, ◌*◌}
use Rattle.grammar.specs.Reader.{items}
use Rattle.item_reader.specs.Kinds.{kind_of}
use Rattle.token_reader.specs.Reading.{Turns}
use Rattle.token_reader.proofs.Turning.{ahead}
use Rattle.item_reader.proofs.nested.+items.Given as goal

abbrev pub decreases-read_item : goal.decreases-read_item
decreases-read_item l = 2 * l.left

abbrev pub decreases-read_items : goal.decreases-read_items
decreases-read_items l = 2 * l.left + 1

abbrev pub invariant-read_items-loop-kind : goal.invariant-read_items-loop-kind
invariant-read_items-loop-kind l =
    Turns false l.text l.initial.said l.initial.next (items (kind_of l.kind) l.left) l.said l.next (items (kind_of l.kind) l.left)

abbrev pub decreases-read_items-loop-kind : goal.decreases-read_items-loop-kind
decreases-read_items-loop-kind l = ahead l.text l.next
