use Rattle.validity.specs.Ticks.{schedule_of}
use Rattle.origins.specs.Points.{Reached, Among}
use Rattle.gaps.proofs.Rules.{OpposingOrder}
use Rattle.gaps.proofs.fill.fill_opposing.Given as goal

abbrev pub invariant-loop-f : goal.invariant-loop-f
invariant-loop-f l =
    Reached l.steps (Among 0 l.f (OpposingOrder (schedule_of l.fn.timeline.starts.now) l.fn.timeline.points.now l.fn.timeline.begins.now)) l.initial.gaps
    l.gaps
