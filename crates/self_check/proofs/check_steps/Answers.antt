-- The lowest of the three steps, refused if it is counted.
use Prim.Native.Nat.{ℕ, ◌≤◌, ◌<◌}
use mathlib.Core.Path.{◌≡◌, ap, ◌∙◌}
use borrow.Author.Tests.{lt-ltb, le-ltb}
use Rattle.std.specs.Prelude.{Err}
use Rattle.verdict.specs.declared.Refusal.TheVariants.{StepAgainstItself}
use Rattle.verdict.specs.Verdict.{Accepted}
use Rattle.verdict.proofs.Chain.{refuse_yes, refuse_no}
use Rattle.job.specs.Model.{Model}
use Rattle.against.specs.Against.{step_check, against_step}
use Rattle.against.proofs.PairSteps.{search_step}
use Rattle.self_check.proofs.check_steps.Goals as goal

named : (m : Model) {k : ℕ} → k ≡ against_step m → k < m.steps → Err (StepAgainstItself k) ≡ step_check m
unfolding step_check
named m e h =
    ap (λ i. Err (StepAgainstItself i)) e ∙ refuse_yes (StepAgainstItself (against_step m)) (lt-ltb (against_step m) m.steps (rw e at h))

passed : (m : Model) {k : ℕ} → k ≡ against_step m → m.steps ≤ k → Accepted ≡ step_check m
unfolding step_check
passed m e h = refuse_no (StepAgainstItself (against_step m)) (le-ltb (against_step m) m.steps (rw e at h))

pub returns-then-step-n : goal.returns-then-step-n
unfolding against_step
returns-then-step-n c =
    named _
    (c.min-step.ensures ∙ rw (c.min.ensures, c.effects_against-effects.ensures, c.uses_against-uses.ensures, c.search_pairs-pairs.ensures, search_step))
    c.if-step-n.true

pub returns : goal.returns
unfolding against_step
returns c =
    passed _
    (c.min-step.ensures ∙ rw (c.min.ensures, c.effects_against-effects.ensures, c.uses_against-uses.ensures, c.search_pairs-pairs.ensures, search_step))
    c.if-step-n.false
