use Rattle.validity.specs.Ticks.{schedule_of}
use Rattle.origins.specs.Points.{Reached, Among}
use Rattle.gaps.proofs.Rules.{NeedOrder}
use Rattle.gaps.proofs.needs.fill_needs.Given as goal

abbrev pub invariant-loop-l : goal.invariant-loop-l
invariant-loop-l l =
    Reached l.steps
    (Among 0 l.l (NeedOrder l.facts l.n (schedule_of l.fn.timeline.starts.now) l.fn.timeline.points.now l.fn.timeline.begins.now)) l.initial.gaps l.gaps
