-- The record that is read is the one that `timed_ok` tests.
use Rattle.ranges.specs.Ranges.{timed_ok}
use borrow.Author.Rules.{rules}
use Rattle.ranges.proofs.timed_ok.Goals as goal

pub returns : goal.returns
unfolding timed_ok
returns c = rw c.timed-timed.ensures
