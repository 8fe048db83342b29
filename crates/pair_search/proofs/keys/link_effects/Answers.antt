-- Each effect becomes the last of its step.
use Prim.Native.Nat.{◌-◌}
use native.Mathlib.Omega.{arith}
use Rattle.timeline.proofs.Indexing.{growing_more, growing_end}
use borrow.Author.Rules.{rules}
use Rattle.pair_search.proofs.keys.link_effects.Goals as goal

pub loop-k-init : goal.loop-k-init
loop-k-init c = c.requires.1

pub link-requires : goal.link-requires
link-requires c =
    let p = c.requires.0 in
    let low = p.effect_step _ c.loop-k-test.true in
    (omega (arith, c.effect_step.ensures, low, p.step_count), omega (arith, c.loop-k-test.true, p.effect_count))

pub loop-k-preserved : goal.loop-k-preserved
loop-k-preserved c =
    let p = c.requires.0 in
    let low = p.effect_step _ c.loop-k-test.true in
    let e = c.effect_step.ensures in
    growing_more _ _ _ _ (omega (arith, c.loop-k-test.true, p.effect_count)) e (omega (arith, e, low, p.step_count)) c.loop-k.invariant
    c.link.ensures

pub returns : goal.returns
returns c = growing_end _ _ _ _ c.loop-k.auto.k-end c.loop-k-test.false c.loop-k.invariant
