-- The record that is read is the one that `step_ok` tests.
use Rattle.ranges.specs.Ranges.{step_ok}
use borrow.Author.Rules.{rules}
use Rattle.ranges.proofs.step_ok.Goals as goal

pub returns : goal.returns
unfolding step_ok
returns c = rw c.step-step.ensures
