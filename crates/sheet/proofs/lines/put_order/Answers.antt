-- The parts of the line, one behind the other.
use Rattle.text.proofs.Writing.{put_then}
use Rattle.sheet.specs.Text.{order_line}
use borrow.Author.Rules.{rules}
use native.Mathlib.Omega.{arith}
use Rattle.sheet.proofs.lines.put_order.Goals as goal

pub returns : goal.returns
unfolding order_line
returns c =
    let a = rw c.first.ensures.0 at c.put_field-first.ensures.0 in
    let b = rw c.second.ensures.0 at c.put_field-second.ensures.0 in
    let d = rw c.gap.ensures.0 at c.put_gap-gap.ensures.0 in
    (put_then (put_then (put_then (put_then a b) c.put_word-space.ensures) d) c.put_word.ensures, omega arith)
