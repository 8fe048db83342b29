-- The parts of the line, one behind the other.
use Rattle.text.proofs.Writing.{put_then}
use Rattle.order_text.specs.Text.{window_line}
use borrow.Author.Rules.{rules}
use native.Mathlib.Omega.{arith}
use Rattle.order_text.proofs.lines.put_window.Goals as goal

pub put_field-step-requires : goal.put_field-step-requires
unfolding window_line
put_field-step-requires c = search rules

pub put_times-times-requires : goal.put_times-times-requires
unfolding window_line
put_times-times-requires c = search rules

pub put_word-requires : goal.put_word-requires
unfolding window_line
put_word-requires c = search rules

pub shape_of-out : goal.shape_of-out
unfolding window_line
shape_of-out c = search rules

pub returns : goal.returns
unfolding window_line
returns c = (put_then (put_then c.put_field-step.ensures.0 c.put_times-times.ensures.0) c.put_word.ensures, omega arith)
