-- The parts of the line, one behind the other.
use Rattle.text.proofs.Writing.{put_then, put_written}
use Rattle.telling.specs.Told.{made_line}
use borrow.Author.Rules.{rules}
use native.Mathlib.Omega.{arith}
use Rattle.telling.proofs.write_made.Goals as goal

pub returns : goal.returns
unfolding made_line
returns c =
    (put_written (put_then c.put_field-made.ensures.0 c.put_word.ensures), omega (arith, c.put_word.ensures.ends))
