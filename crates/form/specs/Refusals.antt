-- All of the form check, refusals 1 to 7 and 17 in checking order.
use Rattle.std.specs.Prelude.{ℕ, ◌≡◌, List, Result}
use Rattle.verdict.specs.Verdict.{Verdict, number, ◌then◌}
use Rattle.job.specs.declared.layout.Job.{Job}
use Rattle.job.specs.Layout.{job_of}
use Rattle.job.specs.Model.{model_of}
use Rattle.job.specs.WellFormed.{WellFormed}
use Rattle.header_check.specs.Header.{header_check}
use Rattle.record_check.specs.declared.RefusedFile.{RefusedFile}
use Rattle.record_check.specs.Records.{record_check, verdict_on, header_read}
use Rattle.against.specs.Against.{step_check}
use Rattle.against.specs.Clock.{timed_check}

-- refusals 1 to 7, then 17
unfoldable pub form_check : List ℕ → Verdict
form_check s = header_check s then record_check (model_of s) then step_check (model_of s) then timed_check (model_of s)

-- what the form check promises: its verdict, what it read of the header, and of an accepted file that it is well formed
pub record FormPromise (s : List ℕ) (r : Result Job RefusedFile) : Type 0 where
  pub verdict : verdict_on r ≡ form_check s
  pub job : header_read r ≡ job_of s
  pub well_formed : number (verdict_on r) ≡ 0 → WellFormed (model_of s)
