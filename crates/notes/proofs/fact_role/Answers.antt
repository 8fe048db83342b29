use native.Mathlib.Omega.{arith}
use Rattle.notes.proofs.fact_role.Goals as goal

pub returns-then-value : goal.returns-then-value
returns-then-value c = let e = c.first_role-first.ensures in (rw (e.0, c.if-value.true), omega (arith, e.1))

pub returns-else-value : goal.returns-else-value
returns-else-value c = let e = c.first_role-first.ensures in (rw c.if-value.false (omega (arith, e.0)), omega (arith, e.1))
