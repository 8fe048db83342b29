-- Each condition becomes the last of its key.
use Prim.Native.Nat.{◌-◌}
use mathlib.Core.Path.{ap₂, ◌∙◌}
use native.Mathlib.Omega.{arith}
use Rattle.self_check.specs.Keys.{step_key}
use Rattle.timeline.proofs.Indexing.{growing_more, growing_end}
use borrow.Author.Rules.{rules}
use Rattle.self_check.proofs.link_conditions.Goals as goal

pub loop-c-init : goal.loop-c-init
loop-c-init c = c.requires.0

pub link-requires : goal.link-requires
link-requires c = (c.step_key-key.ensures.1, omega (arith, c.requires.1, c.loop-c-test.true))

pub loop-c-preserved : goal.loop-c-preserved
loop-c-preserved c =
    let k = c.step_key-key.ensures in
    growing_more _ _ _ _ (omega (arith, c.requires.1, c.loop-c-test.true))
    (k.0 ∙ ap₂ step_key c.condition_step.ensures c.condition_fact.ensures)
    k.1 c.loop-c.invariant c.link.ensures

pub returns : goal.returns
returns c = growing_end _ _ _ _ c.loop-c.auto.c-end c.loop-c-test.false c.loop-c.invariant
