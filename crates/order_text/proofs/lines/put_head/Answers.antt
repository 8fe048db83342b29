-- The parts of the line, one behind the other.
use Rattle.text.proofs.Writing.{put_then}
use Rattle.order_text.specs.Text.{head_line}
use borrow.Author.Rules.{rules}
use native.Mathlib.Omega.{arith}
use Rattle.order_text.proofs.lines.put_head.Goals as goal

pub steps-requires : goal.steps-requires
unfolding head_line
steps-requires c = search rules

pub put_field-steps-requires : goal.put_field-steps-requires
unfolding head_line
put_field-steps-requires c = search rules

pub orders-requires : goal.orders-requires
unfolding head_line
orders-requires c = search rules

pub put_field-orders-requires : goal.put_field-orders-requires
unfolding head_line
put_field-orders-requires c = search rules

pub links-requires : goal.links-requires
unfolding head_line
links-requires c = search rules

pub put_field-links-requires : goal.put_field-links-requires
unfolding head_line
put_field-links-requires c = search rules

pub rounds-requires : goal.rounds-requires
unfolding head_line
rounds-requires c = search rules

pub put_field-rounds-requires : goal.put_field-rounds-requires
unfolding head_line
put_field-rounds-requires c = search rules

pub put_word-requires : goal.put_word-requires
unfolding head_line
put_word-requires c = search rules

pub shape_of-out : goal.shape_of-out
unfolding head_line
shape_of-out c = search rules

pub returns : goal.returns
unfolding head_line
returns c =
    let s = rw c.steps.ensures.0 at c.put_field-steps.ensures.0 in
    let o = rw c.orders.ensures.0 at c.put_field-orders.ensures.0 in
    let l = rw c.links.ensures.0 at c.put_field-links.ensures.0 in
    let r = rw c.rounds.ensures.0 at c.put_field-rounds.ensures.0 in
    (put_then (put_then (put_then (put_then s o) l) r) c.put_word.ensures, omega arith)
