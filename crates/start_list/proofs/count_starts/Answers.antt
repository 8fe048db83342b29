-- The words passed are starts, and as many as are counted.
use native.Mathlib.Omega.{arith}
use mathlib.Core.Path.{◌∙◌}
use Rattle.start_list.proofs.Counting.{count_start, count_odd, count_fits, count_last, count_more}
use Rattle.start_list.proofs.count_starts.Goals as goal

pub loop-n-init : goal.loop-n-init
loop-n-init c = count_start _ c.requires

pub word_end-end-requires : goal.word_end-end-requires
word_end-end-requires c = c.loop-n.invariant.within

pub read_whole-requires : goal.read_whole-requires
read_whole-requires c = let w = c.word_end-end.ensures in (w.onward, w.within)

pub returns-in_err-read_whole : goal.returns-in_err-read_whole
returns-in_err-read_whole c =
    c.from_residual.ensures ∙ count_odd c.loop-n.invariant c.word_end-end.ensures c.read_whole.ensures c.in_err-read_whole.was

pub overflow_add-n : goal.overflow_add-n
overflow_add-n c = omega (arith, count_fits c.loop-n.invariant c.word_end-end.ensures c.read_whole.ensures c.in_ok-read_whole.was)

pub returns-then-end-text : goal.returns-then-end-text
returns-then-end-text c = count_last c.loop-n.invariant c.word_end-end.ensures c.read_whole.ensures c.in_ok-read_whole.was c.if-end-text.true

pub loop-n-preserved : goal.loop-n-preserved
loop-n-preserved c = count_more c.loop-n.invariant c.word_end-end.ensures c.read_whole.ensures c.in_ok-read_whole.was c.if-end-text.false
