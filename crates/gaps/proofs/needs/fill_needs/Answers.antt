-- Each level in turn; in a job without needs there are none to order.
use mathlib.Core.Path.{refl}
use native.Mathlib.Omega.{arith}
use Rattle.laws.specs.Fold.{largest}
use Rattle.validity.specs.Ticks.{schedule_of}
use Rattle.orders.specs.Gaps.{need_gap}
use Rattle.origins.proofs.Reached.{within_up, within_all}
use Rattle.gaps.proofs.Filled.{raised_none}
use Rattle.gaps.proofs.Rules.{given_group, given_between, level_known, need_known, needs_raised}
use Rattle.gaps.proofs.needs.fill_needs.Goals as goal

pub returns-then-job-eq0 : goal.returns-then-job-eq0
unfolding largest need_gap
returns-then-job-eq0 c s known = raised_none _ _ _ (λ i k _. rw c.if-job-eq0.true refl)

pub raise_between-requires : goal.raise_between-requires
unfolding largest need_gap
raise_between-requires c =
    let starts = c.args.timeline.starts.now in
    let known = c.requires.1 in
    let uses = given_group {starts = starts} c.span_of-used.ensures (level_known known c.requires.3 _ c.loop-l-test.true) in
    let others = given_group {starts = starts} c.span_of-needed.ensures (need_known known c.requires.3 _ c.loop-l-test.true) in
    (c.loop-l.invariant.whole c.requires.2, known.form.step_count, uses, others)

pub loop-l-preserved : goal.loop-l-preserved
unfolding largest need_gap
loop-l-preserved c =
    let a = c.args in
    within_up _ _ _ _ _ _ _ (omega arith) c.loop-l.invariant
    (given_between _ (schedule_of a.timeline.starts.now) a.timeline.points.now _ _ c.span_of-used.ensures c.span_of-needed.ensures
    c.raise_between.ensures)

pub returns : goal.returns
unfolding largest need_gap
returns c s known =
    needs_raised known _ _ (within_all _ _ _ _ _ _ _ _ refl (omega (arith, c.loop-l.auto.l-end, c.loop-l-test.false)) c.loop-l.invariant)
