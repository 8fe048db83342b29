-- A number says itself, a name 0.
use mathlib.Core.Path.{sym, ◌∙◌}
use Rattle.plan_check.proofs.Lines.{number_says, name_says}
use Rattle.plan_check.proofs.number_of.Goals as goal

pub returns-then-role-eq-NUMBER : goal.returns-then-role-eq-NUMBER
returns-then-role-eq-NUMBER c text = number_says text _ (sym c.role.ensures ∙ c.if-role-eq-NUMBER.true) c.value.ensures.0

pub returns-else-role-eq-NUMBER : goal.returns-else-role-eq-NUMBER
returns-else-role-eq-NUMBER c text = name_says text _ (λ e. c.if-role-eq-NUMBER.false (c.role.ensures ∙ e))
