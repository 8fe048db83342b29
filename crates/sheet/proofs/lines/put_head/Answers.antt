-- The parts of the line, one behind the other.
use Rattle.text.proofs.Writing.{put_then}
use Rattle.sheet.specs.Text.{head_line}
use borrow.Author.Rules.{rules}
use native.Mathlib.Omega.{arith}
use Rattle.sheet.proofs.lines.put_head.Goals as goal

pub returns : goal.returns
unfolding head_line
returns c =
    let a = rw c.steps.ensures.0 at c.put_field-steps.ensures.0 in
    let b = rw c.rounds.ensures.0 at c.put_field-rounds.ensures.0 in
    (put_then (put_then a b) c.put_word.ensures, omega arith)
