-- The bytes passed are blanks, and the lines are those that they end.
use native.Mathlib.Omega.{arith}
use Rattle.spelling.proofs.Scan.{passed_start, passed_more, passed_full, passed_out}
use mathlib.Core.Path.{ap}
use mathlib.Core.Bool.{not}
use Rattle.spelling.proofs.skip.Goals as goal

pub loop-at-init : goal.loop-at-init
loop-at-init c = passed_start _ _ _ _ (omega arith) (omega arith)

pub returns-then-not-is_blank : goal.returns-then-not-is_blank
returns-then-not-is_blank c = passed_full _ _ _ _ _ _ c.loop-at.invariant c.is_blank.ensures (ap not c.if-not-is_blank.true)

pub line_after-on-requires : goal.line_after-on-requires
line_after-on-requires c =
    let loop = c in
    omega (arith, loop.loop-at.invariant, loop.requires)

pub loop-at-preserved : goal.loop-at-preserved
loop-at-preserved c =
    let test = c in
    passed_more _ _ _ _ _ _ _ _ test.loop-at.invariant test.loop-at-test.true c.is_blank.ensures
    (ap not c.if-not-is_blank.false) c.line_after-on.ensures

pub returns : goal.returns
returns c = passed_out _ _ _ _ _ _ c.loop-at.invariant c.loop-at-test.false
