-- The lowest timed fact against another.
use Prim.Native.Nat.{◌-◌}
use native.Mathlib.Omega.{arith}
use Rattle.laws.proofs.Search.{lowest_start, lowest_more, lowest_found, lowest_end}
use Rattle.verdict.proofs.Chain.{lowest_refused, lowest_passed}
use Rattle.against.specs.Clock.{timed_check}
use borrow.Author.Rules.{rules}
use Rattle.self_check.proofs.clock.check_clock.Goals as goal

pub loop-j-init : goal.loop-j-init
unfolding timed_check
loop-j-init c = lowest_start _

pub conflicts-requires : goal.conflicts-requires
unfolding timed_check
conflicts-requires c = let p = c.requires in (p.0, p.1, c.loop-j-test.true)

pub returns-then-conflicts : goal.returns-then-conflicts
unfolding timed_check
returns-then-conflicts c =
    lowest_refused _ _ _
    (lowest_found _ _ _ c.loop-j.invariant c.loop-j-test.true c.conflicts.ensures c.if-conflicts.true)
    c.loop-j-test.true

pub loop-j-preserved : goal.loop-j-preserved
unfolding timed_check
loop-j-preserved c = lowest_more _ _ c.loop-j.invariant c.conflicts.ensures c.if-conflicts.false

pub returns : goal.returns
unfolding timed_check
returns c =
    lowest_passed _ _ _ (lowest_end _ _ _ c.loop-j.invariant c.loop-j.auto.j-end c.loop-j-test.false) c.loop-j-test.false
