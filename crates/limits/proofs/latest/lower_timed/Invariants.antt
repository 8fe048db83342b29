use Rattle.job.specs.Model.{view}
use Rattle.validity.specs.Ticks.{schedule_of}
use Rattle.moves.specs.Moved.{Down, Moved, Among}
use Rattle.limits.specs.Beside.{SoonerThan, EndedBy, OfFact}
use Rattle.limits.proofs.latest.lower_timed.Given as goal

abbrev pub invariant-loop-f : goal.invariant-loop-f
invariant-loop-f l =
    Moved Down (Among 0 l.f (OfFact l.facts l.fn.timeline.points.now l.fn.timeline.begins.now l.order l.marks (SoonerThan (schedule_of l.fn.timeline.starts.now)) (EndedBy (view l.fn.timeline.job.head l.fn.timeline.job.bytes.now)))) l.initial.latest l.latest
