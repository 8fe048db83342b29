use Rattle.validity.specs.Ticks.{schedule_of}
use Rattle.origins.specs.Points.{Reached, Among}
use Rattle.gaps.proofs.Rules.{LevelOrder}
use Rattle.gaps.proofs.fill.fill_levels.Given as goal

abbrev pub invariant-loop-l : goal.invariant-loop-l
invariant-loop-l l =
    Reached l.steps
    (Among 0 l.l (LevelOrder l.facts (schedule_of l.fn.timeline.starts.now) l.fn.timeline.points.now l.fn.timeline.begins.now)) l.initial.gaps l.gaps
