-- The steps up to this one are passed, and no pair of theirs is found.
use Prim.Native.Nat.{◌-◌}
use mathlib.Core.Path.{refl, sym}
use native.Mathlib.Omega.{arith}
use Rattle.timeline.proofs.Indexing.{growing_start}
use Rattle.pair_search.proofs.Stepping.{steps_start, steps_more, steps_found, steps_end}
use Rattle.pair_search.proofs.search_pairs.Goals as goal

pub link_effects-requires : goal.link_effects-requires
link_effects-requires c = (c.requires.1, growing_start _)

pub loop-step-init : goal.loop-step-init
loop-step-init c = (refl, steps_start)

pub slice_bounds-search_step-end : goal.slice_bounds-search_step-end
slice_bounds-search_step-end c = sym c.link_effects.ensures.size

pub slice_bounds-search_step-end-in-loop-step : goal.slice_bounds-search_step-end-in-loop-step
slice_bounds-search_step-end-in-loop-step c = sym c.loop-step.invariant.0

pub search_step-search-requires : goal.search_step-search-requires
search_step-search-requires c =
    let p = c.requires in
    (p.0, p.1, c.link_effects.ensures, c.loop-step-test.true, c.loop-step.invariant.0)

pub overflow_add-compared : goal.overflow_add-compared
overflow_add-compared c =
    let i = c.loop-step.invariant.1 in
    omega (arith, i.few, c.search_step-search.ensures.value.1, c.loop-step-test.true, c.requires.1.step_count)

pub returns-then-search : goal.returns-then-search
returns-then-search c =
    steps_found c.loop-step.invariant.1 c.loop-step-test.true c.search_step-search.ensures.value.0 c.if-search.true

pub loop-step-preserved : goal.loop-step-preserved
loop-step-preserved c =
    let r = c.search_step-search.ensures in
    (r.keys_len, steps_more c.loop-step.invariant.1 c.loop-step-test.true r.value.0 r.value.1 c.if-search.false)

pub returns : goal.returns
returns c = steps_end c.loop-step.invariant.1 c.loop-step-test.false
