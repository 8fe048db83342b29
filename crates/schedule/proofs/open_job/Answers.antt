-- A refusal of 1 to 6 is the job check's, for the chain begins with them.
use mathlib.Core.Path.{sym, ap}
use Rattle.verdict.specs.Verdict.{number}
use Rattle.verdict.proofs.Chain.{handed, err_then}
use Rattle.record_check.proofs.Ranged.{read_ranged}
use Rattle.record_check.proofs.Laid.{read_laid}
use Rattle.form.proofs.Decides.{read_refused}
use Rattle.validity.specs.Checks.{job_check}
use Rattle.validity.proofs.Accepted.{job_promise}
use Rattle.schedule.proofs.open_job.Goals as goal

pub returns-in_err-read_records : goal.returns-in_err-read_records
unfolding job_check
returns-in_err-read_records c =
    rw (handed _ c.from_residual.ensures.1)
    (record { refused = job_promise _ (err_then _ (read_refused c.in_err-read_records.ensures)); read = tt; ranged = tt; laid = tt })

pub returns : goal.returns
returns c =
    let f = c.in_ok-read_records.ensures in
    record {
      refused = tt;
      read = record { passed = sym (ap number f.verdict); header = f.job };
      ranged = read_ranged f;
      laid = read_laid f;
    }
