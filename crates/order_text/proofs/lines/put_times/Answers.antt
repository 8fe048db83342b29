-- The times, one behind the other.
use Rattle.text.proofs.Writing.{put_then}
use Rattle.order_text.specs.Text.{times_text}
use borrow.Author.Rules.{rules}
use native.Mathlib.Omega.{arith}
use Rattle.order_text.proofs.lines.put_times.Goals as goal

pub limit-requires : goal.limit-requires
unfolding times_text
limit-requires c = search rules

pub put_field-limit-requires : goal.put_field-limit-requires
unfolding times_text
put_field-limit-requires c = search rules

pub put_word-word-requires : goal.put_word-word-requires
unfolding times_text
put_word-word-requires c = search rules

pub latest-requires : goal.latest-requires
unfolding times_text
latest-requires c = search rules

pub put_latest-latest-requires : goal.put_latest-latest-requires
unfolding times_text
put_latest-latest-requires c = search rules

pub earliest-requires : goal.earliest-requires
unfolding times_text
earliest-requires c = search rules

pub put_field-requires : goal.put_field-requires
unfolding times_text
put_field-requires c = search rules

pub shape_of-out : goal.shape_of-out
unfolding times_text
shape_of-out c = search rules

pub returns : goal.returns
unfolding times_text
returns c =
    let a = rw c.limit.ensures.0 at c.put_field-limit.ensures.0 in
    let b = rw c.latest.ensures.0 at c.put_latest-latest.ensures.0 in
    let d = rw c.earliest.ensures.0 at c.put_field.ensures.0 in
    (put_then (put_then (put_then a c.put_word-word.ensures) b) d, omega arith)
