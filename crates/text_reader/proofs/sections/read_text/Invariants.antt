use Rattle.grammar.specs.Reader.{text_body}
use Rattle.token_reader.proofs.Turning.{ahead}
use Rattle.token_reader.specs.Reading.{Turns}
use mathlib.Core.Bool.{false}
use Rattle.text_reader.proofs.sections.read_text.Given as goal

abbrev pub invariant-loop-said : goal.invariant-loop-said
invariant-loop-said l = Turns false l.text l.initial.said l.initial.next text_body l.said l.next text_body

abbrev pub decreases-loop-said : goal.decreases-loop-said
decreases-loop-said l = ahead l.text l.next
