-- Each fact in turn.
use native.Mathlib.Omega.{arith}
use borrow.Author.Rules.{rules}
use Rattle.job.specs.Model.{view}
use Rattle.validity.specs.Ticks.{schedule_of}
use Rattle.moves.specs.Moved.{Down}
use Rattle.limits.specs.Beside.{SoonerThan, EndedBy}
use Rattle.moves.proofs.Moved.{down_same, down_on, moved_none, moved_empty, moved_more, moved_all}
use Rattle.limits.proofs.Grouped.{fact_setters, fact_known}
use Rattle.limits.proofs.Known.{timed_row_lem}
use Rattle.limits.proofs.Walked.{moved_points, moved_timed}
use Rattle.limits.proofs.latest.lower_timed.Goals as goal

pub returns-then-job-eq0 : goal.returns-then-job-eq0
returns-then-job-eq0 c = moved_none Down down_same down_on _ _ (λ k v o. absurd (omega (arith, o.2, c.if-job-eq0.true)))

pub list_timed-requires : goal.list_timed-requires
list_timed-requires c = (c.requires.0.form, c.requires.1, c.requires.0.clock, search rules, search rules)

pub loop-f-init : goal.loop-f-init
loop-f-init c = moved_empty Down down_same down_on _ _ _

pub lower_setters-requires : goal.lower_setters-requires
lower_setters-requires c =
    let span = c.span_of-setters.ensures in (
      fact_setters c.requires.0 c.loop-f-test.true
          (omega (arith, c.requires.0.form.step_count, c.requires.2, c.loop-f.invariant.size)) span.0 span.1,
      timed_row_lem c.requires.0.form c.list_timed.ensures _ c.loop-f-test.true span.2 span.3,
    )

pub lower_conditions-requires : goal.lower_conditions-requires
lower_conditions-requires c =
    let span = c.span_of-wanted.ensures in (
      fact_known c.requires.0 c.loop-f-test.true
          (omega (arith, c.requires.0.form.step_count, c.requires.2, c.loop-f.invariant.size, c.lower_setters.ensures.size)) span.0 span.1,
      timed_row_lem c.requires.0.form c.list_timed.ensures _ c.loop-f-test.true span.2 span.3,
      c.requires.1,
    )

pub loop-f-preserved : goal.loop-f-preserved
loop-f-preserved c =
    let wanted = c.span_of-wanted.ensures in
    let setters = c.span_of-setters.ensures in
    let i = c.loop-f.invariant in
    let a = c.args in
    moved_more Down down_same down_on _ _ _ _ _ _ (omega arith) i
    (moved_points Down down_same down_on (view a.timeline.job.head a.timeline.job.bytes.now) a.timeline.points.now a.timeline.begins.now _ _
    (SoonerThan (schedule_of a.timeline.starts.now)) (EndedBy (view a.timeline.job.head a.timeline.job.bytes.now)) c.requires.0.form c.list_timed.ensures
    _ _ _ c.loop-f.f
    setters.0 setters.1 setters.2 setters.3 wanted.0 wanted.1 wanted.2 wanted.3
    c.lower_setters.ensures c.lower_conditions.ensures)

pub returns : goal.returns
returns c =
    let i = c.loop-f.invariant in
    let a = c.args in
    moved_timed Down down_same down_on (view a.timeline.job.head a.timeline.job.bytes.now) a.timeline.points.now a.timeline.begins.now _ _
    (SoonerThan (schedule_of a.timeline.starts.now)) (EndedBy (view a.timeline.job.head a.timeline.job.bytes.now)) c.requires.0.form c.list_timed.ensures _ _
    (moved_all Down down_same down_on _ _ _ _ _ _ c.loop-f.auto.f-end (omega (arith, c.loop-f-test.false)) i)
