-- The record that is read is the one that `use_ok` tests.
use mathlib.Core.Path.{refl}
use borrow.Author.Tests.{le-ltb, lt-ltb}
use Rattle.ranges.specs.Ranges.{use_ok}
use borrow.Author.Rules.{rules}
use Rattle.ranges.proofs.use_ok.Goals as goal

pub returns-then-job-u : goal.returns-then-job-u
unfolding use_ok
returns-then-job-u c =
    let r = c.usage-u.ensures in
    rw (le-ltb _ _ (rw r at c.if-job-u.true)) refl

pub length_within-requires : goal.length_within-requires
unfolding use_ok
length_within-requires c = (c.requires.0, c.if-job-u.false)

pub returns : goal.returns
unfolding use_ok
returns c =
    let r = c.usage-u.ensures in
    rw (c.length_within.ensures.0, r, lt-ltb _ _ (rw r at c.if-job-u.false)) refl
