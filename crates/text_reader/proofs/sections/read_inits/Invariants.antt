use Rattle.grammar.specs.Reader.{inits}
use Rattle.token_reader.proofs.Turning.{ahead}
use Rattle.token_reader.specs.Reading.{Turns}
use mathlib.Core.Bool.{false}
use Rattle.text_reader.proofs.sections.read_inits.Given as goal

abbrev pub invariant-loop-opened : goal.invariant-loop-opened
invariant-loop-opened l = Turns false l.text l.initial.said l.initial.next inits l.said l.next inits

abbrev pub decreases-loop-opened : goal.decreases-loop-opened
decreases-loop-opened l = ahead l.text l.next
