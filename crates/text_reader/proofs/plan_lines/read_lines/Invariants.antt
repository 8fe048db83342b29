use Rattle.grammar.specs.Reader.{lines}
use Rattle.token_reader.proofs.Turning.{ahead}
use Rattle.token_reader.specs.Reading.{Turns}
use mathlib.Core.Bool.{true}
use Rattle.text_reader.proofs.plan_lines.read_lines.Given as goal

abbrev pub invariant-loop-said : goal.invariant-loop-said
invariant-loop-said l = Turns true l.text l.initial.said l.initial.next lines l.said l.next lines

abbrev pub decreases-loop-said : goal.decreases-loop-said
decreases-loop-said l = ahead l.text l.next
