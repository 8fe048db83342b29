-- Every byte passed is a word's.
use Rattle.spelling.proofs.Scan.{run_start, run_more, run_stop, run_out}
use mathlib.Core.Path.{ap}
use mathlib.Core.Bool.{not}
use Rattle.spelling.proofs.run_end.Goals as goal

pub loop-end-init : goal.loop-end-init
loop-end-init c = run_start _ _ _ c.requires

pub returns-then-not-in_word : goal.returns-then-not-in_word
returns-then-not-in_word c = run_stop _ _ _ _ _ c.loop-end.invariant c.in_word.ensures (ap not c.if-not-in_word.true)

pub loop-end-preserved : goal.loop-end-preserved
loop-end-preserved c =
    let test = c in
    run_more _ _ _ _ _ test.loop-end.invariant test.loop-end-test.true c.in_word.ensures (ap not c.if-not-in_word.false)

pub returns : goal.returns
returns c = run_out _ _ _ _ c.loop-end.invariant c.loop-end-test.false
