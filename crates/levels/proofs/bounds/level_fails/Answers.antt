-- Tick by tick, with what the level's uses at earlier ticks add and take.
use native.Mathlib.Omega.{arith}
use Rattle.levels.proofs.LevelSweeps.{summed_low, sweeping_start, sweeping_more, sweeping_fails, sweeping_end}
use borrow.Author.Tests.{not-true, not-false}
use mathlib.Core.Path.{ap}
use mathlib.Core.Bool.{not}
use Rattle.levels.proofs.bounds.level_fails.Goals as goal

pub loop-sums-init : goal.loop-sums-init
loop-sums-init c = sweeping_start c.requires

pub sums_at-next-requires : goal.sums_at-next-requires
sums_at-next-requires c = let i = c.loop-sums.invariant in (c.loop-sums-test.true, (_, i.stretch, i.summed))

pub in_bounds-requires : goal.in_bounds-requires
in_bounds-requires c =
    let i = c.loop-sums.invariant in
    let a = summed_low i.summed i.stretch.few in
    let b = summed_low (c.sums_at-next.ensures.summed _ i.summed) i.stretch.few in
    (a.0, a.1, b.0, b.1)

pub returns-then-not-in_bounds : goal.returns-then-not-in_bounds
returns-then-not-in_bounds c =
    sweeping_fails c.loop-sums.invariant c.loop-sums-test.true c.sums_at-next.ensures
    c.in_bounds.ensures (not-true _ (ap not c.if-not-in_bounds.true))

pub loop-sums-smaller : goal.loop-sums-smaller
loop-sums-smaller c = omega (arith, c.loop-sums-test.true, c.sums_at-next.ensures.further)

pub loop-sums-preserved : goal.loop-sums-preserved
loop-sums-preserved c =
    sweeping_more c.loop-sums.invariant c.loop-sums-test.true c.sums_at-next.ensures
    c.in_bounds.ensures (not-false _ (ap not c.if-not-in_bounds.false))

pub returns : goal.returns
returns c = sweeping_end c.loop-sums.invariant c.loop-sums-test.false
