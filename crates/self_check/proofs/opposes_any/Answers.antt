-- A search back along the conditions of one key.
use mathlib.Core.Path.{ap, ◌∙◌}
use native.Mathlib.Omega.{arith}
use Rattle.laws.proofs.Search.{any_found}
use Rattle.laws.proofs.Linked.{back_start, back_more, back_less, back_end}
use Rattle.job.specs.declared.records.Effect.{Effect}
use Rattle.self_check.specs.Keys.{step_key}
use Rattle.against.specs.Against.{opposes_own, opposes_any}
use Rattle.self_check.proofs.Steps.{own_opposes}
use borrow.Author.Rules.{rules}
use Rattle.self_check.proofs.opposes_any.Goals as goal

pub last_of-c-requires : goal.last_of-c-requires
unfolding opposes_any
last_of-c-requires c = let p = c.requires in (p.growing.size, p.low)

pub loop-c-init : goal.loop-c-init
unfolding opposes_any
loop-c-init c =
    let p = c.requires in
    λ k q. back_start p.growing.linked p.few _ _ (own_opposes _ _) _ _ (p.same ∙ ap (λ (x : Effect). step_key x.step x.fact) q) p.low
    c.last_of-c.ensures

pub returns-then-opposes_own : goal.returns-then-opposes_own
unfolding opposes_any
returns-then-opposes_own c = λ k q. any_found _ _ _ c.loop-c-test.true (c.opposes_own.ensures k q) c.if-opposes_own.true

pub before_of-c-requires : goal.before_of-c-requires
unfolding opposes_any
before_of-c-requires c = let p = c.requires in (p.growing.size, omega (arith, c.loop-c-test.true, p.few))

pub loop-c-smaller : goal.loop-c-smaller
unfolding opposes_any
loop-c-smaller c = let p = c.requires in back_less p.growing.linked p.few _ _ c.loop-c-test.true c.before_of-c.ensures

pub loop-c-preserved : goal.loop-c-preserved
unfolding opposes_any
loop-c-preserved c =
    let p = c.requires in
    λ k q. back_more p.growing.linked p.few _ _ (own_opposes _ _) _ (c.loop-c.invariant k q) c.loop-c-test.true
    (c.opposes_own.ensures k q) c.if-opposes_own.false c.before_of-c.ensures

pub returns : goal.returns
unfolding opposes_any
returns c = λ k q. back_end _ _ _ (c.loop-c.invariant k q) c.loop-c-test.false
