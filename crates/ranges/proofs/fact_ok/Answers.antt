-- The value that is read is the one that `fact_ok` tests.
use Rattle.ranges.specs.Ranges.{fact_ok}
use borrow.Author.Rules.{rules}
use Rattle.ranges.proofs.fact_ok.Goals as goal

pub returns : goal.returns
unfolding fact_ok
returns c = cc
