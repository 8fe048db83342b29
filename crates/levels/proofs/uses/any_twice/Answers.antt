-- Level by level.
use mathlib.Core.Path.{refl}
use native.Mathlib.Omega.{arith}
use Rattle.laws.proofs.Search.{contrary}
use Rattle.levels.proofs.UsesApart.{levels_more}
use Rattle.levels.proofs.uses.any_twice.Goals as goal

pub loop-l-init : goal.loop-l-init
loop-l-init c l h = absurd (omega arith)

pub begin_at-low-requires : goal.begin_at-low-requires
begin_at-low-requires c = omega (arith, c.requires.room, c.loop-l-test.true)

pub begin_at-high-requires : goal.begin_at-high-requires
begin_at-high-requires c = omega (arith, c.requires.room, c.loop-l-test.true)

pub twice-requires : goal.twice-requires
twice-requires c =
    let listed = c.requires in
    let h = c.loop-l-test.true in
    let begin = c.begin_at-low.ensures.0 in
    let end = c.begin_at-high.ensures.0 in
    (omega (arith, listed.ends _ h, end), λ p q l g k. listed.rises _ h p q (omega (arith, l, begin)) g (omega (arith, k, end)))

pub returns-then-twice : goal.returns-then-twice
returns-then-twice c e = contrary refl e

pub loop-l-preserved : goal.loop-l-preserved
loop-l-preserved c =
    levels_more _ c.args.points.now
    c.args.begins.now c.loop-l.invariant
    c.begin_at-low.ensures.0 c.begin_at-high.ensures.0 (c.twice.ensures c.if-twice.false)

pub returns : goal.returns
returns c _ l h = c.loop-l.invariant l (omega (arith, h, c.loop-l-test.false))
