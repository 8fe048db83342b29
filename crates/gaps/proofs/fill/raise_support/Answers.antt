-- The link read from the list is the condition's.
use mathlib.Core.Path.{ap, ap₂, ◌∙◌}
use native.Mathlib.Omega.{arith}
use Rattle.job.specs.Model.{view}
use Rattle.job.specs.declared.records.Condition.{Condition}
use Rattle.job.specs.declared.records.Effect.{Effect}
use Rattle.orders.specs.Gaps.{strictly}
use Rattle.gaps.proofs.Filled.{raised_none}
use Rattle.origins.proofs.Raised.{raised_one}
use Rattle.links.proofs.LinkList.{condition_link_lem}
use Rattle.gaps.proofs.Supported.{support_none, support_order_lem}
use Rattle.gaps.proofs.fill.raise_support.Goals as goal

pub returns-then-of_clock : goal.returns-then-of_clock
returns-then-of_clock c =
    let m = view c.args.job.head c.args.job.bytes.now in
    record { raised_by_links = λ x l. raised_none _ _ _ (support_none m _ _ (condition_link_lem _ _ _ l _ c.requires.1) (omega (arith, c.if-of_clock.true))); gaps = c.requires.0.whole }

pub returns : goal.returns
returns c =
    let m = view c.args.job.head c.args.job.bytes.now in
    let form = c.requires.0.form in
    let first = c.effect-effect.ensures in
    let second = c.condition-condition.ensures in
    let step = ap (λ (e : Effect). e.step) first in
    let step' = ap (λ (q : Condition). q.step) second in record {
      raised_by_links = λ x l. raised_one _ _ _ _ _ _ _ form.step_count
          (rw step (form.effect_step _ c.if-of_clock.false))
          (rw step' (form.condition_step _ c.requires.1))
          c.raise.ensures
          (support_order_lem m _ _ (condition_link_lem _ _ _ l _ c.requires.1) c.if-of_clock.false form.effect_count step step'
          (c.strictly.ensures.0 ∙ ap₂ strictly (ap (λ (e : Effect). e.at) first) (ap (λ (q : Condition). q.from) second)));
      gaps = c.raise.ensures.whole c.requires.0.whole;
    }
