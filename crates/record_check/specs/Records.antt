-- Refusal 6, and what refusals 1 to 6 promise.
use Rattle.std.specs.Prelude.{◌≡◌, List, ℕ, Result, Ok, Err}
use Rattle.verdict.specs.declared.Refusal.TheVariants.{RecordOutOfRange}
use Rattle.verdict.specs.Verdict.{Verdict, Accepted, number, ◌then◌, refuse_lowest}
use Rattle.job.specs.declared.layout.Job.{Job}
use Rattle.job.specs.declared.layout.Table.{Table}
use Rattle.job.specs.declared.layout.Table.TheVariants.{Facts, Levels, Steps, Conditions, Effects, Uses, Goals, TimedFacts, Needs}
use Rattle.job.specs.Layout.{job_of}
use Rattle.job.specs.Model.{Model, model_of}
use Rattle.job.specs.WellFormed.{Ranged}
use Rattle.record_check.specs.declared.RefusedFile.{RefusedFile}
use Rattle.header_check.specs.Header.{header_check}
use Rattle.ranges.specs.Ranges.{count_in, record_broken}

-- refusal 6 in one table
unfoldable pub table_check : Model → Table → Verdict
table_check m t = refuse_lowest (count_in m t) (record_broken m t) RecordOutOfRange

-- refusal 6: the tables in their order
unfoldable pub record_check : Model → Verdict
record_check m =
    table_check m Facts then table_check m Levels then table_check m Steps then table_check m Conditions
    then table_check m Effects
    then table_check m Uses
    then table_check m Goals
    then table_check m TimedFacts
    then table_check m Needs

-- the verdict on a file that was read
abbrev pub verdict_on : Result Job RefusedFile → Verdict
verdict_on (Ok _) = Accepted
verdict_on (Err file) = Err file.refusal

-- what was read of its header, refused or not
abbrev pub header_read : Result Job RefusedFile → Job
header_read (Ok head) = head
header_read (Err file) = file.head

-- what the check of the header and the records promises: its verdict, what it read of the header, and the ranges where it accepts
pub record RecordsPromise (s : List ℕ) (r : Result Job RefusedFile) : Type 0 where
  pub verdict : verdict_on r ≡ (header_check s then record_check (model_of s))
  pub job : header_read r ≡ job_of s
  pub ranged : number (verdict_on r) ≡ 0 → Ranged (model_of s)
