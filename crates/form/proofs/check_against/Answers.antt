-- The steps, then the clock.
use Rattle.verdict.proofs.Chain.{handed, err_then, ok_then}
use Rattle.form.proofs.check_against.Goals as goal

pub returns-in_err-check_steps : goal.returns-in_err-check_steps
returns-in_err-check_steps c = rw (handed _ c.from_residual.ensures.1) (err_then _ c.in_err-check_steps.ensures)

pub returns : goal.returns
returns c = ok_then c.in_ok-check_steps.ensures c.check_clock.ensures
