-- Use by use, from the need's tick on while it lasts.
use mathlib.Core.Path.{refl}
use native.Mathlib.Omega.{arith}
use Rattle.needs.proofs.LevelNeeds.{counting_start, counting_more, counting_low, counting_ends}
use Rattle.needs.proofs.falls_against.Goals as goal

pub loop-q-init : goal.loop-q-init
loop-q-init c = counting_start c.requires.1.1.summed

pub bounds-points-q : goal.bounds-points-q
bounds-points-q c = omega (arith, c.requires.1.1.placed.ends, c.loop-q-test.true)

pub returns-then-tick-at : goal.returns-then-tick-at
returns-then-tick-at c =
    let so = c.loop-q.invariant in
    let tick = c.tick_of-tick.ensures.0 in (
      counting_low so c.requires.0,
      λ x at. counting_ends at so (λ _. omega (arith, tick, c.tick_of-at.ensures.0, c.if-tick-at.true)),
    )

pub overflow_add-falls : goal.overflow_add-falls
overflow_add-falls c =
    let start = c.requires in
    omega (arith, counting_low c.loop-q.invariant start.0, c.fall_of-falls.ensures.1)

pub loop-q-preserved : goal.loop-q-preserved
loop-q-preserved c =
    let tick = c.tick_of-tick.ensures.0 in
    counting_more c.loop-q.invariant c.loop-q-test.true
    (omega (arith, tick, c.tick_of-at.ensures.0, c.if-tick-at.false)) c.number_of.ensures.0
    c.step_of.ensures.0 c.step_of-step.ensures.0
    c.fall_of-falls.ensures refl

pub returns : goal.returns
returns c =
    let so = c.loop-q.invariant in (
      counting_low so c.requires.0,
      λ x at. counting_ends at so (λ h. absurd (omega (arith, h, c.loop-q-test.false))),
    )
