-- By the value.
use mathlib.Core.Path.{refl}
use borrow.Author.Tests.{eq-eqb, ne_eqb}
use Rattle.values.proofs.conditions.opposing.Goals as goal

pub returns-then-value-eq0 : goal.returns-then-value-eq0
returns-then-value-eq0 c = rw (eq-eqb _ _ c.if-value-eq0.true) refl

pub returns-else-value-eq0 : goal.returns-else-value-eq0
returns-else-value-eq0 c = rw (ne_eqb _ _ c.if-value-eq0.false) refl
