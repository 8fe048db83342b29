-- Between crates: what a file is known to be before its timing is checked: what refusals 1 to 6 leave, and the points of the written starts.
use Rattle.std.specs.Prelude.{ℕ, ◌≡◌, List, Result, Err, IfOk, IfErr}
use Rattle.verdict.specs.declared.Refusal.{Refusal}
use Rattle.verdict.specs.Verdict.{number, ◌then◌}
use Rattle.job.specs.declared.layout.Job.{Job}
use Rattle.job.specs.Layout.{job_of}
use Rattle.job.specs.Laid.{Laid}
use Rattle.job.specs.Model.{view, model_of}
use Rattle.job.specs.WellFormed.{Ranged}
use Rattle.job.specs.Clocked.{clocked}
use Rattle.header_check.specs.Header.{header_check}
use Rattle.record_check.specs.Records.{record_check}
use Rattle.validity.specs.Ticks.{schedule_of, planned_starts}
use Rattle.validity.specs.Promise.{JobPromise}
use Rattle.points.specs.Points.{PointsKnown}

-- a file that refusals 1 to 6 pass, and what was read of its header
pub record Read (s : List ℕ) (job : Job) : Type 0 where
  pub passed : number (header_check s then record_check (model_of s)) ≡ 0
  pub header : job ≡ job_of s

-- what refusals 1 to 6 found of a file: the job check's refusal, or a file that they pass
pub record Opened (s : List ℕ) (r : Result Job Refusal) : Type 0 where
  pub refused : IfErr r (λ refusal. JobPromise s (Err refusal))
  pub read : IfOk r (λ job. Read s job)
  pub ranged : IfOk r (λ job. Ranged (view job s))
  pub laid : IfOk r (λ job. Laid job s)

-- a file that refusals 1 to 6 pass, and its points at its written starts in the order of their ticks
pub record Planned (s : List ℕ) (job : Job) (starts points begins : List ℕ) : Type 0 where
  pub read : Read s job
  pub written : starts ≡ planned_starts (view job s)
  pub known : PointsKnown (clocked (view job s)) (schedule_of starts) points begins
