-- The record that is read is the one that `need_ok` tests.
use mathlib.Core.Path.{refl}
use borrow.Author.Tests.{le-ltb, lt-ltb}
use Rattle.ranges.specs.Ranges.{need_ok}
use borrow.Author.Rules.{rules}
use Rattle.ranges.proofs.need_ok.Goals as goal

pub returns-then-job-n : goal.returns-then-job-n
unfolding need_ok
returns-then-job-n c =
    let r = c.need-n.ensures in
    rw (le-ltb _ _ (rw r at c.if-job-n.true)) refl

pub length_within-requires : goal.length_within-requires
unfolding need_ok
length_within-requires c = (c.requires.0, c.if-job-n.false)

pub returns : goal.returns
unfolding need_ok
returns c =
    let r = c.need-n.ensures in
    rw (c.level_in_range.ensures, c.length_within.ensures.0, r, lt-ltb _ _ (rw r at c.if-job-n.false)) refl
