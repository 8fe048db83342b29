-- From the place back, as long as the tick stays.
use mathlib.Core.Path.{refl}
use native.Mathlib.Omega.{arith}
use Rattle.laws.proofs.Search.{contrary}
use Rattle.levels.proofs.UsesApart.{others_start, others_more, others_past, others_end}
use Rattle.levels.proofs.uses.repeated.Goals as goal

pub bounds-points-q : goal.bounds-points-q
bounds-points-q c = c.requires.0

pub bounds-points-q-2 : goal.bounds-points-q-2
bounds-points-q-2 c = c.requires.0

pub loop-p-init : goal.loop-p-init
loop-p-init c = others_start c.requires c.tick_of-tick.ensures.0 c.step_of-step.ensures.0

pub bounds-points-p : goal.bounds-points-p
bounds-points-p c = let i = c.loop-p.invariant in omega (arith, i.to, i.listed)

pub returns-then-tick_of-tick : goal.returns-then-tick_of-tick
returns-then-tick_of-tick c _ =
    let i = c.loop-p.invariant in
    others_past i c.loop-p-test.true c.tick_of.ensures.0 c.if-tick_of-tick.true

pub bounds-points-p-in-loop-p : goal.bounds-points-p-in-loop-p
bounds-points-p-in-loop-p c = let i = c.loop-p.invariant in omega (arith, i.to, i.listed)

pub returns-then-step_of-step : goal.returns-then-step_of-step
returns-then-step_of-step c e = contrary refl e

pub loop-p-preserved : goal.loop-p-preserved
loop-p-preserved c =
    let i = c.loop-p.invariant in
    others_more i c.loop-p-test.true c.step_of.ensures.0 c.if-step_of-step.false

pub returns : goal.returns
returns c _ = others_end c.loop-p.invariant (omega (arith, c.loop-p-test.false))
