-- The record that is read is the one that `level_ok` tests.
use Rattle.ranges.specs.Ranges.{level_ok}
use borrow.Author.Rules.{rules}
use Rattle.ranges.proofs.level_ok.Goals as goal

pub returns : goal.returns
unfolding level_ok
returns c =
    rw (
      c.level_in_range-3.ensures,
      c.level_in_range-2.ensures,
      c.level_in_range.ensures,
      c.level-level.ensures,
    )
