use Rattle.job.specs.Clocked.{clocked}
use Rattle.job.specs.Model.{view}
use Rattle.needs.proofs.LevelNeeds.{Visited}
use Rattle.needs.proofs.with_level.Given as goal

abbrev pub invariant-loop-q : goal.invariant-loop-q
invariant-loop-q l = Visited (clocked (view l.fn.timeline.job.head l.fn.timeline.job.bytes.now)) l.fn.timeline.points.now l.fn.timeline.begins.now l.l l.below l.high l.end l.sums l.best l.q
