-- The parts of the line, one behind the other.
use Rattle.text.proofs.Writing.{put_then}
use Rattle.order_text.specs.Text.{link_line}
use borrow.Author.Rules.{rules}
use native.Mathlib.Omega.{arith}
use Rattle.order_text.proofs.lines.put_link.Goals as goal

pub put_field-number-requires : goal.put_field-number-requires
unfolding link_line
put_field-number-requires c = search rules

pub link-requires : goal.link-requires
unfolding link_line
link-requires c = search rules

pub put_target-target-requires : goal.put_target-target-requires
unfolding link_line
put_target-target-requires c = search rules

pub put_word-requires : goal.put_word-requires
unfolding link_line
put_word-requires c = search rules

pub shape_of-out : goal.shape_of-out
unfolding link_line
shape_of-out c = search rules

pub returns : goal.returns
unfolding link_line
returns c =
    let t = rw c.link.ensures.0 at c.put_target-target.ensures.0 in
    (put_then (put_then c.put_field-number.ensures.0 t) c.put_word.ensures, omega arith)
