-- A job that is refused, one that finds no room, one that is written.
use Rattle.std.proofs.Common.{ℕ, List, ◌++◌, length, drop, refl, sym, ap, ◌∙◌, arith}
use lib.Seq.{take-length}
use Rattle.texts_answer.proofs.Checked.{refuses, handed, too_short, makes}
use Rattle.job_filing.proofs.file_checked.Goals as goal

pub returns-in_err-check_job : goal.returns-in_err-check_job
returns-in_err-check_job c = rw (handed _ c.from_residual.ensures.1) (refuses _ _ c.in_err-check_job.ensures.answer)

pub returns-then-out-job : goal.returns-then-out-job
returns-then-out-job c = too_short _ _ c.in_ok-check_job.ensures.answer (omega arith)

pub returns : goal.returns
returns c =
    let job = c.args.job.now in
    let behind = drop (length job) c.args.out.now in
    makes _ _ _ c.in_ok-check_job.ensures.answer (omega arith) refl
    (ap (λ (k : List ℕ). k ++ behind) (c.copy_from_slice.ensures.after ∙ sym (take-length job)))
