-- The record that is read is the one that `goal_ok` tests.
use Rattle.ranges.specs.Ranges.{goal_ok}
use borrow.Author.Rules.{rules}
use Rattle.ranges.proofs.goal_ok.Goals as goal

pub returns : goal.returns
unfolding goal_ok
returns c = rw c.goal-goal.ensures
