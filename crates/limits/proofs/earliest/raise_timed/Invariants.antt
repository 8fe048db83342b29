use Rattle.validity.specs.Ticks.{schedule_of}
use Rattle.moves.specs.Moved.{Up, Moved, Among}
use Rattle.limits.specs.Beside.{LaterThan, OfFact}
use Rattle.limits.proofs.earliest.raise_timed.Given as goal

abbrev pub invariant-loop-f : goal.invariant-loop-f
invariant-loop-f l =
    Moved Up (Among 0 l.f (OfFact l.facts l.fn.timeline.points.now l.fn.timeline.begins.now l.order l.marks (LaterThan (schedule_of l.fn.timeline.starts.now)) (LaterThan (schedule_of l.fn.timeline.starts.now)))) l.initial.limits l.limits
