use Prim.Native.Nat.{◌-◌}
use Rattle.job.specs.Clocked.{clocked}
use Rattle.job.specs.Model.{view}
use Rattle.levels.proofs.LevelSweeps.{Sweeping}
use Rattle.levels.proofs.bounds.level_fails.Given as goal

abbrev pub invariant-loop-sums : goal.invariant-loop-sums
invariant-loop-sums l = Sweeping (clocked (view l.job.head l.job.bytes.now)) l.l l.points l.low l.high l.sums

abbrev pub decreases-loop-sums : goal.decreases-loop-sums
decreases-loop-sums l = l.high - l.sums.place
