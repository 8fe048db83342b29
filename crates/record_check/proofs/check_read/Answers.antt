-- The header, then the records, chained.
use Rattle.std.proofs.Common.{◌≡◌, refl, sym, ap, subst, ◌∙◌, List, ℕ}
use Rattle.job.specs.declared.layout.Job.{Job}
use Rattle.job.specs.Laid.{Laid}
use Rattle.job.specs.Layout.{job_of}
use Rattle.job.specs.Model.{view, model_of}
use Rattle.header_check.specs.Header.{header_check}
use Rattle.record_check.specs.Records.{record_check}
use Rattle.verdict.specs.Verdict.{Verdict, Accepted, number, ◌then◌}
use Rattle.verdict.proofs.Chain.{handed}
use Rattle.record_check.proofs.Laid.{header_laid}
use Rattle.record_check.proofs.check_read.Goals as goal

-- what was checked of the records
checked :
    (s : List ℕ) {job : Job} {v : Verdict} → job ≡ job_of s → Accepted ≡ header_check s → (Laid job s → v ≡ record_check (view job s))
    → v ≡ (header_check s then record_check (model_of s))
unfolding ◌then◌
checked s {job} {v} j h r =
    rw (sym h)
    (r (subst (λ (x : Job). Laid x s) (sym j) (header_laid s (sym (ap number h)))) ∙ ap (λ (x : Job). record_check (view x s)) j)

pub returns-in_err-check_header : goal.returns-in_err-check_header
unfolding ◌then◌
returns-in_err-check_header c =
    rw (handed _ c.from_residual.ensures.1) (rw (sym c.in_err-check_header.ensures) refl)

pub returns : goal.returns
returns c =
    checked _ c.requires c.in_ok-check_header.ensures c.check_file.ensures
