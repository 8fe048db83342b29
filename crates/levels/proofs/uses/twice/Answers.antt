-- Place by place.
use mathlib.Core.Path.{refl}
use native.Mathlib.Omega.{arith}
use Rattle.laws.proofs.Search.{contrary}
use Rattle.levels.proofs.UsesApart.{apart_more}
use Rattle.levels.proofs.uses.twice.Goals as goal

pub loop-q-init : goal.loop-q-init
loop-q-init c q l p i g = absurd (omega arith)

pub repeated-requires : goal.repeated-requires
repeated-requires c =
    let r = c.requires in
    (omega (arith, r.0, c.loop-q-test.true), λ p q l g k. r.1 p q l g (omega (arith, k, c.loop-q-test.true)))

pub returns-then-repeated : goal.returns-then-repeated
returns-then-repeated c e = contrary refl e

pub loop-q-preserved : goal.loop-q-preserved
loop-q-preserved c =
    apart_more c.args.points.now c.loop-q.invariant
    (c.repeated.ensures c.if-repeated.false)

pub returns : goal.returns
returns c _ q l = c.loop-q.invariant q (omega (arith, l, c.loop-q-test.false))
