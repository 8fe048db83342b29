use Prim.Native.Nat.{◌-◌}
use Rattle.job.specs.Clocked.{clocked}
use Rattle.job.specs.Model.{view}
use Rattle.levels.proofs.LevelSweeps.{Gathering}
use Rattle.levels.proofs.bounds.sums_at.Given as goal

abbrev pub invariant-loop-sums : goal.invariant-loop-sums
invariant-loop-sums l = Gathering (clocked (view l.job.head l.job.bytes.now)) l.points l.high l.tick l.initial.sums l.sums

abbrev pub decreases-loop-sums : goal.decreases-loop-sums
decreases-loop-sums l = l.high - l.sums.place
