-- The lowest step found so far is kept; one more effect lowers it or not.
use Prim.Native.Nat.{◌-◌}
use mathlib.Core.Path.{sym, ap}
use native.Mathlib.Omega.{arith}
use Rattle.laws.proofs.Search.{owner_start, owner_more, owner_end}
use Rattle.timeline.proofs.Indexing.{growing_start}
use Rattle.job.specs.declared.records.Effect.{Effect}
use Rattle.against.specs.Against.{opposes_own_step}
use borrow.Author.Rules.{rules}
use Rattle.self_check.proofs.effects_against.Goals as goal

pub link_conditions-requires : goal.link_conditions-requires
unfolding opposes_own_step
link_conditions-requires c = (growing_start _, c.requires.1.condition_count)

pub loop-k-init : goal.loop-k-init
unfolding opposes_own_step
loop-k-init c = sym (owner_start _ _ _)

pub slice_bounds-opposes_any-end : goal.slice_bounds-opposes_any-end
unfolding opposes_own_step
slice_bounds-opposes_any-end c = sym c.link_conditions.ensures.size

pub opposes_any-found-requires : goal.opposes_any-found-requires
unfolding opposes_own_step
opposes_any-found-requires c =
    let k = c.step_key-key.ensures in
    record { growing = c.link_conditions.ensures; few = c.requires.1.condition_count; same = k.0; low = k.1 }

pub loop-k-preserved : goal.loop-k-preserved
unfolding opposes_own_step
loop-k-preserved c =
    let r = c.effect-e.ensures in
    owner_more _ _ _ _ c.loop-k.invariant (c.opposes_any-found.ensures _ r) (ap (λ (x : Effect). x.step) r) c.lower_if-best.ensures

pub returns : goal.returns
unfolding opposes_own_step
returns c = owner_end _ _ _ _ _ c.loop-k.invariant c.loop-k.auto.k-end c.loop-k-test.false
