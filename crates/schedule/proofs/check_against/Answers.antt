-- Refusal 7, then 17.
use mathlib.Core.Path.{◌∙◌}
use Rattle.verdict.proofs.Chain.{handed, err_then, ok_then}
use Rattle.schedule.proofs.check_against.Goals as goal

pub returns-in_err-check_steps : goal.returns-in_err-check_steps
returns-in_err-check_steps c = handed _ c.from_residual.ensures.1 ∙ err_then _ c.in_err-check_steps.ensures

pub returns : goal.returns
returns c = ok_then c.in_ok-check_steps.ensures c.check_clock.ensures
