use Prim.Native.Nat.{ℕ}
use Rattle.job.specs.Clocked.{clocked}
use Rattle.job.specs.Model.{view}
use Rattle.points.specs.Points.{PointsKnown}
use Rattle.needs.specs.LevelNeeds.{NeedsOfLevels}
use Rattle.needs.proofs.first_unmet.Given as goal

abbrev pub invariant-loop-l : goal.invariant-loop-l
invariant-loop-l l =
    (x : ℕ → ℕ) → PointsKnown (clocked (view l.fn.timeline.job.head l.fn.timeline.job.bytes.now)) x l.fn.timeline.points.now l.fn.timeline.begins.now → NeedsOfLevels (clocked (view l.fn.timeline.job.head l.fn.timeline.job.bytes.now)) x l.l l.best
