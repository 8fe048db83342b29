-- The parts of the line, one behind the other.
use Rattle.text.proofs.Writing.{put_then, put_written}
use Rattle.telling.specs.Told.{refused_line}
use borrow.Author.Rules.{rules}
use native.Mathlib.Omega.{arith}
use Rattle.telling.proofs.write_refused.Goals as goal

pub returns : goal.returns
unfolding refused_line
returns c =
    let a = rw c.number.ensures at c.put_field-number.ensures.0 in
    let b = rw c.place.ensures at c.put_field-place.ensures.0 in
    let d = put_then (put_then (put_then a b) c.put_word-colon.ensures) c.put_fault-fault.ensures.0 in
    (put_written (put_then d c.put_word.ensures), omega (arith, c.put_word.ensures.ends, c.put_word-colon.ensures.ends))
