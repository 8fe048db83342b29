-- Along the links of a step's effects, from the last to the first.
use mathlib.Core.Path.{sym, ap, ◌∙◌}
use native.Mathlib.Omega.{arith}
use Rattle.laws.proofs.Linked.{back_less}
use Rattle.pair_search.specs.Keys.{key_of}
use Rattle.pair_search.proofs.Listing.{in_range, listing_room, listing_start, listing_more, listing_end}
use Rattle.pair_search.proofs.keys.list_keys.Goals as goal

pub last_of-k-requires : goal.last_of-k-requires
last_of-k-requires c = let p = c.requires in (p.2.size, omega (arith, p.1.step_count, p.3))

pub loop-k-init : goal.loop-k-init
loop-k-init c =
    let p = c.requires in
    listing_start _ _ _ p.1.effect_count _ p.2 _ _ p.4 (omega (arith, p.1.step_count, p.3)) c.last_of-k.ensures

pub overflow_sub-low : goal.overflow_sub-low
overflow_sub-low c = listing_room _ _ c.loop-k.invariant c.loop-k-test.true

pub effect-e-requires : goal.effect-e-requires
effect-e-requires c = (c.requires.0, c.loop-k-test.true)

pub effect_key-requires : goal.effect_key-requires
effect_key-requires c = in_range c.requires.1 c.loop-k-test.true c.effect-e.ensures

pub offset_bounds-keys-low : goal.offset_bounds-keys-low
offset_bounds-keys-low c = omega (arith, c.loop-k.invariant.most)

pub bounds-keys-low : goal.bounds-keys-low
bounds-keys-low c =
    let i = c.loop-k.invariant in
    omega (arith, i.size, i.most, listing_room _ _ i c.loop-k-test.true)

pub before_of-k-requires : goal.before_of-k-requires
before_of-k-requires c =
    let p = c.requires in
    (p.2.size, omega (arith, c.loop-k-test.true, p.1.effect_count))

pub loop-k-smaller : goal.loop-k-smaller
loop-k-smaller c =
    let p = c.requires in
    back_less p.2.linked p.1.effect_count _ _ c.loop-k-test.true c.before_of-k.ensures

pub loop-k-preserved : goal.loop-k-preserved
loop-k-preserved c =
    let p = c.requires in
    listing_more _ _ _ p.1.effect_count _ p.2 _ _ _ _ _ c.loop-k.invariant c.loop-k-test.true
    (c.effect_key.ensures ∙ ap key_of c.effect-e.ensures) c.before_of-k.ensures

pub shape_of-keys : goal.shape_of-keys
shape_of-keys c = c.loop-k.invariant.size ∙ sym c.requires.4

pub returns : goal.returns
returns c =
    let i = c.loop-k.invariant in
    record { listed = (i.most, listing_end _ _ _ _ _ _ i c.loop-k-test.false); keys_len = i.size }
