-- Each condition in turn.
use native.Mathlib.Omega.{arith}
use Rattle.moves.specs.Moved.{Up}
use Rattle.moves.proofs.Moved.{up_same, up_on, moved_none, moved_empty, moved_more, moved_all}
use Rattle.limits.proofs.earliest.raise_supported.Goals as goal

pub returns-then-job-eq0 : goal.returns-then-job-eq0
returns-then-job-eq0 c =
    let p = c.requires in
    moved_none Up up_same up_on _ _
    (λ k v o. absurd (omega (arith, c.if-job-eq0.true, o.3.0, p.1.named o.0 o.2 o.3.1)))

pub loop-c-init : goal.loop-c-init
loop-c-init c = moved_empty Up up_same up_on _ _ _

pub loop-c-preserved : goal.loop-c-preserved
loop-c-preserved c =
    let i = c.loop-c.invariant in
    moved_more Up up_same up_on _ _ _ _ _ _ (omega arith) i c.raise_linked.ensures

pub returns : goal.returns
returns c =
    let i = c.loop-c.invariant in
    moved_all Up up_same up_on _ _ _ _ _ _ c.loop-c.auto.c-end (omega (arith, c.loop-c-test.false)) i
