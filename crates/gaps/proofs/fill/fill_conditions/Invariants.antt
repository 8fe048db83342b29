use Rattle.job.specs.Model.{view}
use Rattle.validity.specs.Ticks.{schedule_of}
use Rattle.gaps.specs.Rules.{fact_at}
use Rattle.origins.specs.Points.{FactOrder, Reached, Among}
use Rattle.gaps.proofs.fill.fill_conditions.Given as goal

abbrev pub invariant-loop-f : goal.invariant-loop-f
invariant-loop-f l =
    Reached l.fn.timeline.job.head.count.steps
    (Among 0 l.f (λ g. FactOrder (view l.fn.timeline.job.head l.fn.timeline.job.bytes.now) (schedule_of l.fn.timeline.starts.now) l.fn.timeline.points.now (fact_at l.fn.timeline.begins.now l.fn.timeline.job.head.count.facts g))) l.initial.gaps l.gaps
