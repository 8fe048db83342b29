-- A note of another role holds no number.
use mathlib.Core.Path.{sym, ◌∙◌}
use borrow.Author.Tests.{eq-eqb, ne_eqb}
use native.Mathlib.Omega.{arith}
use Rattle.job_notes.specs.Tables.{number_noted}
use Rattle.job_from_notes.proofs.brought.number.Goals as goal

pub returns-then-role-eq-NUMBER : goal.returns-then-role-eq-NUMBER
unfolding number_noted
returns-then-role-eq-NUMBER c = (rw (eq-eqb _ _ (sym c.role.ensures ∙ c.if-role-eq-NUMBER.true)) c.value.ensures.0, c.value.ensures.1)

pub returns-else-role-eq-NUMBER : goal.returns-else-role-eq-NUMBER
unfolding number_noted
returns-else-role-eq-NUMBER c = (rw (ne_eqb _ _ (λ q. c.if-role-eq-NUMBER.false (c.role.ensures ∙ q))), omega arith)
