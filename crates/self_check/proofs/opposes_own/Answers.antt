-- The fact decides, or the value, or they leave the answer to the other fields.
use mathlib.Core.Path.{ap}
use Rattle.job.specs.declared.records.Effect.{Effect}
use Rattle.self_check.proofs.Steps.{opposes_else, opposes_not, opposes_rest}
use Rattle.self_check.proofs.opposes_own.Goals as goal

pub returns-then-e-condition_fact : goal.returns-then-e-condition_fact
returns-then-e-condition_fact c = λ k q. opposes_else _ _ _ (ap (λ (x : Effect). x.fact) q) c.condition_fact.ensures c.if-e-condition_fact.true

pub returns-then-e-condition_value : goal.returns-then-e-condition_value
returns-then-e-condition_value c =
    λ k q. opposes_not _ _ _ (ap (λ (x : Effect). x.value) q) c.condition_value.ensures c.if-e-condition_value.true

pub returns : goal.returns
returns c =
    λ k q.
    rw (
      c.condition_to.ensures.0,
      c.condition_from.ensures.0,
      c.condition_step.ensures,
      q,
    )
    (opposes_rest _ _ _ (ap (λ (x : Effect). x.fact) q) c.condition_fact.ensures c.if-e-condition_fact.false (ap (λ (x : Effect). x.value) q)
    c.condition_value.ensures c.if-e-condition_value.false)
