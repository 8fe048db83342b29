-- Use by use, while the tick is the first one's.
use native.Mathlib.Omega.{arith}
use Rattle.levels.proofs.LevelSweeps.{summed_low, gathering_start, gathering_more, gathering_ends}
use Rattle.levels.proofs.bounds.sums_at.Goals as goal

pub bounds-points-first : goal.bounds-points-first
bounds-points-first c = let p = c.requires in omega (arith, p.0, p.1.1.ends)

pub loop-sums-init : goal.loop-sums-init
loop-sums-init c = let p = c.requires in gathering_start p.0 p.1 c.tick_of-tick.ensures.0

pub bounds-points-place : goal.bounds-points-place
bounds-points-place c = let i = c.loop-sums.invariant in omega (arith, i.given.1.ends, c.loop-sums-test.true)

pub returns-then-tick-tick_of : goal.returns-then-tick-tick_of
returns-then-tick-tick_of c =
    let i = c.loop-sums.invariant in
    gathering_ends i (λ _. omega (arith, c.tick_of.ensures.0, c.if-tick-tick_of.true))

pub with_use-sums-requires : goal.with_use-sums-requires
with_use-sums-requires c =
    let i = c.loop-sums.invariant in
    let few = summed_low (i.summed _ i.given.2) i.given.1.few in
    (omega (arith, c.loop-sums-test.true, i.given.1.few), few.0, few.1)

pub loop-sums-smaller : goal.loop-sums-smaller
loop-sums-smaller c = omega (arith, c.with_use-sums.ensures.place, c.loop-sums-test.true)

pub loop-sums-preserved : goal.loop-sums-preserved
loop-sums-preserved c =
    gathering_more c.loop-sums.invariant c.number_of.ensures.0
    c.loop-sums-test.true (omega (arith, c.tick_of.ensures.0, c.if-tick-tick_of.false))
    c.with_use-sums.ensures

pub returns : goal.returns
returns c = gathering_ends c.loop-sums.invariant (λ h. absurd (omega (arith, h, c.loop-sums-test.false)))
