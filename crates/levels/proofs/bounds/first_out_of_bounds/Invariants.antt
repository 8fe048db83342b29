use Prim.Native.Nat.{ℕ}
use mathlib.Core.Path.{◌≡◌}
use Rattle.laws.specs.Search.{lowest}
use Rattle.job.specs.Clocked.{clocked}
use Rattle.job.specs.Model.{view}
use Rattle.validity.specs.Checks.{level_fails}
use Rattle.points.specs.Points.{PointsKnown}
use Rattle.levels.proofs.bounds.first_out_of_bounds.Given as goal

abbrev pub invariant-loop-l : goal.invariant-loop-l
invariant-loop-l l =
    (x : ℕ → ℕ) → PointsKnown (clocked (view l.fn.timeline.job.head l.fn.timeline.job.bytes.now)) x l.fn.timeline.points.now l.fn.timeline.begins.now
    → lowest l.l (level_fails (clocked (view l.fn.timeline.job.head l.fn.timeline.job.bytes.now)) x) ≡ l.l
