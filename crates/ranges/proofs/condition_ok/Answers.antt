-- The record that is read is the one that `condition_ok` tests.
use mathlib.Core.Path.{refl}
use borrow.Author.Tests.{le-ltb, lt-ltb}
use Rattle.ranges.specs.Ranges.{condition_ok}
use borrow.Author.Rules.{rules}
use Rattle.ranges.proofs.condition_ok.Goals as goal

pub returns-then-job-c : goal.returns-then-job-c
unfolding condition_ok
returns-then-job-c c =
    let r = c.condition-c.ensures in
    rw (le-ltb _ _ (rw r at c.if-job-c.true)) refl

pub length_within-requires : goal.length_within-requires
unfolding condition_ok
length_within-requires c = (c.requires.0, c.if-job-c.false)

pub returns : goal.returns
unfolding condition_ok
returns c =
    let r = c.condition-c.ensures in
    rw (c.length_within.ensures.0, r, lt-ltb _ _ (rw r at c.if-job-c.false)) refl
