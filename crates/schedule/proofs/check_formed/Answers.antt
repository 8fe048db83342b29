-- Refusals 8 and 9, then the timing.
use Rattle.verdict.proofs.Chain.{handed, err_then, ok_then}
use Rattle.validity.specs.Checks.{starts_check}
use mathlib.Core.Path.{◌∙◌}
use Rattle.schedule.proofs.check_formed.Goals as goal

pub returns-in_err-check_starts : goal.returns-in_err-check_starts
unfolding starts_check
returns-in_err-check_starts c = handed _ c.from_residual.ensures.1 ∙ err_then _ c.in_err-check_starts.ensures

pub check_timing-requires : goal.check_timing-requires
check_timing-requires c = c.requires

pub returns : goal.returns
unfolding starts_check
returns c = ok_then c.in_ok-check_starts.ensures c.check_timing.ensures
