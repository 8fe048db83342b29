-- The tests are those of `marks_wrong`.
use Rattle.header_check.specs.Header.{marks_wrong}
use borrow.Author.Rules.{rules}
use Rattle.header_check.proofs.marks_wrong.Goals as goal

pub returns : goal.returns
unfolding marks_wrong
returns c = rw (c.u16_at.ensures.0, c.serial_mark.ensures)
