-- The sound-timing promise: accepted means exactly that the file is well formed and the timing sound, and each refusal says what fails.
use Rattle.std.specs.Prelude.{ℕ, ◌<◌, ◌≡◌, List, length}
use Rattle.verdict.specs.Verdict.{Verdict, number}
use Rattle.job.specs.Model.{model_of}
use Rattle.job.specs.Clocked.{clocked}
use Rattle.form.specs.Refusals.{form_check}
use Rattle.job.specs.WellFormed.{WellFormed}
use Rattle.validity.specs.Ticks.{schedule_of, planned}
use Rattle.validity.specs.Valid.{Valid}
use Rattle.validity.specs.Checks.{job_check, schedule_check}
use Rattle.validity.specs.Refused.{UnderItsSentence}

-- a file that refusals 1 to 7 and 17 pass, and a schedule of its job that is sound, timed facts acting as effects of the clock
pub record Sound (s : List ℕ) (x : ℕ → ℕ) : Type 0 where
  pub form : number (form_check s) ≡ 0
  pub well_formed : WellFormed (model_of s)
  pub valid : Valid (clocked (model_of s)) x

-- what the job check promises
pub record JobPromise (s : List ℕ) (r : Verdict) : Type 0 where
  pub answer : r ≡ job_check s
  pub sound : number r ≡ 0 → Sound s (planned (model_of s))
  pub complete : Sound s (planned (model_of s)) → number r ≡ 0
  pub refused : UnderItsSentence s (planned (model_of s)) r
  -- 8 and 9 are the timing check's only: the written starts pass
  pub starts_pass : 7 < number r → 9 < number r

-- what the timing check promises of a list of starts
pub record SchedulePromise (s starts : List ℕ) (r : Verdict) : Type 0 where
  pub answer : r ≡ schedule_check s starts
  pub one_each : number r ≡ 0 → length starts ≡ (model_of s).steps
  pub sound : number r ≡ 0 → Sound s (schedule_of starts)
  pub complete : length starts ≡ (model_of s).steps → Sound s (schedule_of starts) → number r ≡ 0
  pub refused : UnderItsSentence s (schedule_of starts) r
  pub miscounted : number r ≡ 8 → length starts ≡ (model_of s).steps → ⊥
