-- The test decides.
use Rattle.self_check.proofs.lower_if.Goals as goal

pub returns-then-found-step : goal.returns-then-found-step
returns-then-found-step c = rw c.if-found-step.true

pub returns-else-found-step : goal.returns-else-found-step
returns-else-found-step c = rw c.if-found-step.false
