use Prim.Native.Nat.{ℕ}
use mathlib.Core.Path.{◌≡◌}
use Rattle.laws.specs.Search.{lowest}
use Rattle.job.specs.Clocked.{clocked}
use Rattle.job.specs.Model.{view}
use Rattle.validity.specs.Checks.{goal_fails}
use Rattle.points.specs.Points.{PointsKnown, OneValue}
use Rattle.goals.proofs.first_missed.Given as goal

abbrev pub invariant-loop-g : goal.invariant-loop-g
invariant-loop-g l =
    (x : ℕ → ℕ) → PointsKnown (clocked (view l.fn.timeline.job.head l.fn.timeline.job.bytes.now)) x l.fn.timeline.points.now l.fn.timeline.begins.now → OneValue (clocked (view l.fn.timeline.job.head l.fn.timeline.job.bytes.now)) x
    → lowest l.g (goal_fails (clocked (view l.fn.timeline.job.head l.fn.timeline.job.bytes.now)) x) ≡ l.g
