-- Each fact in turn.
use native.Mathlib.Omega.{arith}
use borrow.Author.Rules.{rules}
use Rattle.job.specs.Model.{view}
use Rattle.validity.specs.Ticks.{schedule_of}
use Rattle.moves.specs.Moved.{Up}
use Rattle.limits.specs.Beside.{LaterThan}
use Rattle.moves.proofs.Moved.{up_same, up_on, moved_none, moved_empty, moved_more, moved_all}
use Rattle.limits.proofs.Grouped.{fact_setters, fact_wanted}
use Rattle.limits.proofs.Known.{timed_row_lem}
use Rattle.limits.proofs.Walked.{moved_points, moved_timed}
use Rattle.limits.proofs.earliest.raise_timed.Goals as goal

pub returns-then-job-eq0 : goal.returns-then-job-eq0
returns-then-job-eq0 c = moved_none Up up_same up_on _ _ (λ k v o. absurd (omega (arith, o.2, c.if-job-eq0.true)))

pub list_timed-requires : goal.list_timed-requires
list_timed-requires c = (c.requires.0.form, c.requires.1, c.requires.0.clock, search rules, search rules)

pub loop-f-init : goal.loop-f-init
loop-f-init c = moved_empty Up up_same up_on _ _ _

pub raise_points-requires : goal.raise_points-requires
raise_points-requires c =
    let span = c.span_of-setters.ensures in (
      fact_setters c.requires.0 c.loop-f-test.true
          (omega (arith, c.requires.0.form.step_count, c.requires.2, c.loop-f.invariant.size)) span.0 span.1,
      timed_row_lem c.requires.0.form c.list_timed.ensures _ c.loop-f-test.true span.2 span.3,
    )

pub raise_points-requires-in-loop-f : goal.raise_points-requires-in-loop-f
raise_points-requires-in-loop-f c =
    let span = c.span_of-wanted.ensures in (
      fact_wanted c.requires.0 c.loop-f-test.true
          (omega (arith, c.requires.0.form.step_count, c.requires.2, c.loop-f.invariant.size, c.raise_points.ensures.size)) span.0 span.1,
      timed_row_lem c.requires.0.form c.list_timed.ensures _ c.loop-f-test.true span.2 span.3,
    )

pub loop-f-preserved : goal.loop-f-preserved
loop-f-preserved c =
    let wanted = c.span_of-wanted.ensures in
    let setters = c.span_of-setters.ensures in
    let i = c.loop-f.invariant in
    let a = c.args in
    moved_more Up up_same up_on _ _ _ _ _ _ (omega arith) i
    (moved_points Up up_same up_on (view a.timeline.job.head a.timeline.job.bytes.now) a.timeline.points.now a.timeline.begins.now _ _
    (LaterThan (schedule_of a.timeline.starts.now)) (LaterThan (schedule_of a.timeline.starts.now)) c.requires.0.form c.list_timed.ensures
    _ _ _ c.loop-f.f
    setters.0 setters.1 setters.2 setters.3 wanted.0 wanted.1 wanted.2 wanted.3
    c.raise_points.ensures c.raise_points-in-loop-f.ensures)

pub returns : goal.returns
returns c =
    let i = c.loop-f.invariant in
    let a = c.args in
    moved_timed Up up_same up_on (view a.timeline.job.head a.timeline.job.bytes.now) a.timeline.points.now a.timeline.begins.now _ _
    (LaterThan (schedule_of a.timeline.starts.now)) (LaterThan (schedule_of a.timeline.starts.now)) c.requires.0.form c.list_timed.ensures _ _
    (moved_all Up up_same up_on _ _ _ _ _ _ c.loop-f.auto.f-end (omega (arith, c.loop-f-test.false)) i)
