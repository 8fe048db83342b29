-- The parts of the line, one behind the other.
use Rattle.text.proofs.Writing.{put_then, put_written}
use Rattle.sheet.specs.Text.{refused_text}
use borrow.Author.Rules.{rules}
use native.Mathlib.Omega.{arith}
use Rattle.sheet.proofs.write_refused.Goals as goal

pub returns : goal.returns
unfolding refused_text
returns c =
    record { written = put_written (put_then (put_then c.put_field-refused.ensures.0 c.put_field-placed.ensures.0) c.put_word.ensures); upper_bound = omega arith }
