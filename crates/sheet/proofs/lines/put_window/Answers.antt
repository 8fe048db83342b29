-- The parts of the line, one behind the other.
use Rattle.text.proofs.Writing.{put_then}
use Rattle.sheet.specs.Text.{window_line}
use borrow.Author.Rules.{rules}
use native.Mathlib.Omega.{arith}
use Rattle.sheet.proofs.lines.put_window.Goals as goal

pub returns : goal.returns
unfolding window_line
returns c =
    let b = rw c.earliest.ensures.0 at c.put_field-earliest.ensures.0 in
    let d = rw c.latest.ensures.0 at c.put_latest-latest.ensures.0 in
    (put_then (put_then (put_then (put_then c.put_field-step.ensures.0 b) c.put_word-word.ensures) d) c.put_word.ensures, omega arith)
