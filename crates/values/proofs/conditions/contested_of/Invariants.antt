use Rattle.job.specs.Clocked.{clocked}
use Rattle.job.specs.Model.{view}
use Rattle.validity.specs.Ticks.{schedule_of}
use Rattle.values.proofs.Walked.{Walked}
use Rattle.values.proofs.conditions.contested_of.Given as goal

abbrev pub invariant-loop-q : goal.invariant-loop-q
invariant-loop-q l =
    Walked (clocked (view l.fn.timeline.job.head l.fn.timeline.job.bytes.now)) (schedule_of l.fn.timeline.starts.now) l.fn.timeline.points.now l.fn.timeline.begins.now l.fact l.setters l.end l.walk l.best l.q
