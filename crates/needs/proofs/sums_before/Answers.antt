-- Use by use, up to the need's tick.
use native.Mathlib.Omega.{arith}
use Rattle.levels.proofs.LevelSweeps.{summed_low}
use Rattle.needs.proofs.LevelNeeds.{behind_more, behind_ends}
use Rattle.needs.proofs.sums_before.Goals as goal

pub loop-sums-init : goal.loop-sums-init
loop-sums-init c low so = so

pub bounds-points-place : goal.bounds-points-place
bounds-points-place c = omega (arith, c.requires.1.stretch.ends, c.loop-sums-test.true)

pub returns-then-tick-tick_of : goal.returns-then-tick-tick_of
returns-then-tick-tick_of c low so =
    let tick = c.tick_of-tick.ensures.0 in
    behind_ends (c.loop-sums.invariant low so)
    (λ _. omega (arith, tick, c.tick_of.ensures.0, c.if-tick-tick_of.true))

pub with_use-sums-requires : goal.with_use-sums-requires
with_use-sums-requires c =
    let start = c.requires in
    let so = c.loop-sums.invariant start.0 start.1 in
    let few = summed_low so.summed so.stretch.few in
    (omega (arith, c.loop-sums-test.true, so.stretch.few), few.0, few.1)

pub loop-sums-smaller : goal.loop-sums-smaller
loop-sums-smaller c = omega (arith, c.with_use-sums.ensures.place, c.loop-sums-test.true)

pub loop-sums-preserved : goal.loop-sums-preserved
loop-sums-preserved c low so =
    let tick = c.tick_of-tick.ensures.0 in
    behind_more (c.loop-sums.invariant low so) c.number_of.ensures.0
    c.loop-sums-test.true
    (omega (arith, tick, c.tick_of.ensures.0, c.if-tick-tick_of.false))
    c.with_use-sums.ensures

pub returns : goal.returns
returns c low so = behind_ends (c.loop-sums.invariant low so) (λ h. absurd (omega (arith, h, c.loop-sums-test.false)))
