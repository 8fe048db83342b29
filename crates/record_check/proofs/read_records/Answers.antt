-- The verdict of the header that was read, and of its records; what passes is in range.
use Rattle.std.proofs.Common.{◌≡◌, sym, ap, ◌∙◌, List, ℕ, Result}
use Rattle.job.specs.declared.layout.Job.{Job}
use Rattle.job.specs.Layout.{job_of}
use Rattle.job.specs.Model.{model_of}
use Rattle.verdict.specs.Verdict.{number, ◌then◌}
use Rattle.header_check.specs.Header.{header_check}
use Rattle.record_check.specs.declared.RefusedFile.{RefusedFile}
use Rattle.record_check.specs.Records.{record_check, RecordsPromise, verdict_on, header_read}
use Rattle.record_check.proofs.Ranged.{ranged}
use Rattle.record_check.proofs.read_records.Goals as goal

-- the ranges follow from the verdict
promise :
    (s : List ℕ) {r : Result Job RefusedFile} → verdict_on r ≡ (header_check s then record_check (model_of s)) → header_read r ≡ job_of s
    → RecordsPromise s r
promise s v j = record { verdict = v; job = j; ranged = λ z. ranged s (sym (ap number v) ∙ z) }

pub returns-in-Ok : goal.returns-in-Ok
returns-in-Ok c = promise _ c.in-Ok.ensures c.read-head.ensures

pub returns-in-Err : goal.returns-in-Err
returns-in-Err c = promise _ c.in-Err.ensures c.read-head.ensures
