-- The record that is read is the one that `effect_ok` tests.
use mathlib.Core.Path.{refl}
use borrow.Author.Tests.{le-ltb, lt-ltb}
use Rattle.ranges.specs.Ranges.{effect_ok}
use borrow.Author.Rules.{rules}
use Rattle.ranges.proofs.effect_ok.Goals as goal

pub returns-then-job-e : goal.returns-then-job-e
unfolding effect_ok
returns-then-job-e c =
    let r = c.effect-e.ensures in
    rw (le-ltb _ _ (rw r at c.if-job-e.true)) refl

pub length_within-requires : goal.length_within-requires
unfolding effect_ok
length_within-requires c = (c.requires.0, c.if-job-e.false)

pub returns : goal.returns
unfolding effect_ok
returns c =
    let r = c.effect-e.ensures in
    rw (c.length_within.ensures.0, r, lt-ltb _ _ (rw r at c.if-job-e.false)) refl
