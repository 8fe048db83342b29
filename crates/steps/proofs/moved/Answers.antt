-- The parts are those of `moved`.
use Rattle.validity.specs.Checks.{moved}
use borrow.Author.Rules.{rules}
use Rattle.steps.proofs.moved.Goals as goal

pub step_fixed-requires : goal.step_fixed-requires
unfolding moved
step_fixed-requires c = search rules

pub start_of-requires : goal.start_of-requires
unfolding moved
start_of-requires c = search rules

pub step_start-requires : goal.step_start-requires
unfolding moved
step_start-requires c = search rules

pub returns : goal.returns
unfolding moved
returns c = cc
