-- The lowest step found so far is kept; one more use lowers it or not, and is linked after those before it.
use Prim.Native.Nat.{◌-◌}
use mathlib.Core.Path.{sym, ap₂, ◌∙◌}
use native.Mathlib.Omega.{arith}
use Rattle.laws.proofs.Search.{owner_start, owner_more, owner_end}
use Rattle.self_check.specs.Keys.{step_key}
use Rattle.against.specs.Against.{uses_twice_step}
use Rattle.timeline.proofs.Indexing.{growing_start, growing_more}
use borrow.Author.Rules.{rules}
use Rattle.self_check.proofs.uses_against.Goals as goal

pub returns-then-n-eq0 : goal.returns-then-n-eq0
unfolding uses_twice_step
returns-then-n-eq0 c = owner_end _ _ _ _ 0 (sym (owner_start _ _ _)) (omega arith) (omega (arith, c.if-n-eq0.true))

pub loop-u-init : goal.loop-u-init
unfolding uses_twice_step
loop-u-init c = (growing_start _, sym (owner_start _ _ _))

pub slice_bounds-used_before-end : goal.slice_bounds-used_before-end
unfolding uses_twice_step
slice_bounds-used_before-end c = sym c.loop-u.invariant.0.size

pub used_before-found-requires : goal.used_before-found-requires
unfolding uses_twice_step
used_before-found-requires c =
    let k = c.step_key-key.ensures in record {
      growing = c.loop-u.invariant.0;
      few = omega (arith, c.loop-u-test.true, c.requires.use_count);
      same = k.0 ∙ ap₂ step_key c.use_step-step.ensures c.use_level.ensures;
      low = k.1;
    }

pub link-requires : goal.link-requires
unfolding uses_twice_step
link-requires c = (c.step_key-key.ensures.1, omega (arith, c.loop-u-test.true, c.requires.use_count))

pub loop-u-preserved : goal.loop-u-preserved
unfolding uses_twice_step
loop-u-preserved c =
    let k = c.step_key-key.ensures in (
      growing_more _ _ _ _ (omega (arith, c.loop-u-test.true, c.requires.use_count))
          (k.0 ∙ ap₂ step_key c.use_step-step.ensures
          c.use_level.ensures) k.1 c.loop-u.invariant.0 c.link.ensures,
      owner_more _ _ _ _ c.loop-u.invariant.1 c.used_before-found.ensures
          c.use_step-step.ensures c.lower_if-best.ensures,
    )

pub returns : goal.returns
unfolding uses_twice_step
returns c = owner_end _ _ _ _ _ c.loop-u.invariant.1 c.loop-u.auto.u-end c.loop-u-test.false
