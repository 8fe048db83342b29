-- Inner: what loosening knows before it lists the points of a job: that refusals 1 to 6 pass the file, and the written starts.
use Rattle.std.specs.Prelude.{◌≡◌, ℕ, List}
use Rattle.job.specs.declared.layout.Job.{Job}
use Rattle.job.specs.Laid.{Laid}
use Rattle.job.specs.Model.{view}
use Rattle.job.specs.WellFormed.{Ranged}
use Rattle.validity.specs.Ticks.{planned_starts}
use Rattle.schedule.specs.Opened.{Read}

pub record Formed (s : List ℕ) (job : Job) (starts : List ℕ) : Type 0 where
  pub read : Read s job
  pub ranged : Ranged (view job s)
  pub laid : Laid job s
  pub written : starts ≡ planned_starts (view job s)
