-- Refusals 1 to 6 of the file that was opened.
use Rattle.verdict.proofs.Chain.{handed}
use Rattle.schedule.proofs.check_job.Goals as goal

pub returns-in_err-head : goal.returns-in_err-head
returns-in_err-head c = rw (handed _ c.from_residual.ensures.1) c.in_err-head.ensures.refused
