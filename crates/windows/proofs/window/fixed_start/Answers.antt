-- The fixed mark decides.
use mathlib.Core.Path.{sym, ◌∙◌}
use borrow.Author.Tests.{eq-eqb, ne_eqb}
use Rattle.windows.proofs.window.fixed_start.Goals as goal

pub returns-then-step_fixed-eq1 : goal.returns-then-step_fixed-eq1
returns-then-step_fixed-eq1 c = rw (eq-eqb _ _ (sym c.step_fixed.ensures ∙ c.if-step_fixed-eq1.true)) c.step_start.ensures.0

pub returns-else-step_fixed-eq1 : goal.returns-else-step_fixed-eq1
returns-else-step_fixed-eq1 c = rw (ne_eqb _ _ (λ e. c.if-step_fixed-eq1.false (c.step_fixed.ensures ∙ e)))
