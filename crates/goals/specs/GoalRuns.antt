-- Between crates: what is known of goals before they are tested, and what the run that ends a group says of a deadline.
use Rattle.std.specs.Prelude.{ℕ, ◌≡◌, Bool, false, ◌&&◌, not, List, ltb, eqb}
use Rattle.job.specs.Model.{Model, no_deadline}
use Rattle.job.specs.Clocked.{ClockedForm}
use Rattle.timeline.specs.Words.{tick_at}
use Rattle.timeline.specs.Placed.{Run}
use Rattle.points.specs.Points.{PointsKnown}

-- a well-formed job, and its points in some schedule
pub record GoalsKnown (m : Model) (points begins : List ℕ) : Type 0 where
  pub form : ClockedForm m
  pub known : (x : ℕ → ℕ) × PointsKnown m x points begins

-- r tells whether there is a deadline and the run that ends the group begins after it; not where the run is the whole group and goes
-- on with a value kept from the start
pub record LateRun (points : List ℕ) (low high : ℕ) (kept : Bool) (deadline : ℕ) (r : Bool) : Type 0 where
  pub never : deadline ≡ no_deadline → r ≡ false
  pub ends :
      (deadline ≡ no_deadline → ⊥)
      → (run : ℕ) × Run points low high run × (r ≡ (not (kept && eqb run low) && ltb deadline (tick_at points run)))
