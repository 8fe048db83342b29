-- The count of the starts, then the fixed steps.
use mathlib.Core.Path.{sym, ap, ◌∙◌}
use mathlib.Core.Bool.{not}
use borrow.Author.Tests.{eq-eqb, ne_eqb}
use Rattle.verdict.proofs.Chain.{err_then, ok_then, refuse_yes, refuse_no}
use Rattle.validity.specs.declared.Rule.TheVariants.{FixedSteps}
use Rattle.validity.specs.Checks.{count_check}
use Rattle.schedule.proofs.Chained.{rule_refused, rule_passed}
use Rattle.schedule.proofs.check_starts.Goals as goal

pub returns-then-other : goal.returns-then-other
unfolding count_check
returns-then-other c = err_then _ (refuse_yes _ (ap not (ne_eqb _ _ c.if-other.true)))

pub returns-in-Some : goal.returns-in-Some
unfolding count_check
returns-in-Some c =
    ok_then (refuse_no _ (ap not (eq-eqb _ _ c.if-other.false)))
    (rule_refused _ _ FixedSteps (sym c.in-Some.is ∙ c.first_moved-moved.ensures))

pub returns : goal.returns
unfolding count_check
returns c =
    ok_then (refuse_no _ (ap not (eq-eqb _ _ c.if-other.false)))
    (rule_passed _ _ FixedSteps (sym c.in_default.is ∙ c.first_moved-moved.ensures))
