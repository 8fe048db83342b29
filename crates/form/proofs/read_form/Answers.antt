-- The records, then the steps and the clock, chained as in `form_check`; what passes is well formed.
use Rattle.std.proofs.Common.{◌≡◌, sym, ap, ◌∙◌, List, ℕ, Result, Err}
use Rattle.std.specs.Result.{IsErrAnd}
use Rattle.std.proofs.lemmas.Result.{err_from_is_err_and}
use Rattle.job.specs.declared.layout.Job.{Job}
use Rattle.job.specs.Layout.{job_of}
use Rattle.verdict.specs.Verdict.{number}
use Rattle.record_check.specs.declared.RefusedFile.{RefusedFile}
use Rattle.record_check.specs.Records.{verdict_on, header_read}
use Rattle.record_check.proofs.Ranged.{read_ranged}
use Rattle.record_check.proofs.Laid.{read_laid}
use Rattle.form.specs.Refusals.{form_check, FormPromise}
use Rattle.form.proofs.WellFormed.{well_formed_lem}
use Rattle.form.proofs.Decides.{read_refused, read_passed}
use Rattle.form.proofs.read_form.Goals as goal

-- what is well formed follows from the verdict
promise : (s : List ℕ) {r : Result Job RefusedFile} → verdict_on r ≡ form_check s → header_read r ≡ job_of s → FormPromise s r
promise s v j = record { verdict = v; job = j; well_formed = λ z. well_formed_lem s (sym (ap number v) ∙ z) }

-- what `?` hands back of a file that was refused
handed : {A : Type 0} (result : Result A RefusedFile) {file : RefusedFile} → IsErrAnd result (λ x. x ≡ file) → result ≡ Err file
handed result e = let p = err_from_is_err_and result e in p.1 ∙ ap (λ x. Err x) p.2

pub returns-in_err-head : goal.returns-in_err-head
returns-in_err-head c =
    let p = c.in_err-head.ensures in rw (handed _ c.from_residual.ensures.1) (promise _ (read_refused p) p.job)

pub check_against-requires : goal.check_against-requires
check_against-requires c = let p = c.in_ok-head.ensures in (read_laid p, read_ranged p)

pub returns-in-Ok : goal.returns-in-Ok
returns-in-Ok c = let p = c.in_ok-head.ensures in promise _ (c.in-Ok.ensures ∙ read_passed p) p.job

pub returns-in-Err : goal.returns-in-Err
returns-in-Err c = let p = c.in_ok-head.ensures in promise _ (c.in-Err.ensures ∙ read_passed p) p.job
