use native.Mathlib.Omega.{arith}
use Rattle.item_reader.proofs.literals.role_at.Goals as goal

pub returns-then-end : goal.returns-then-end
returns-then-end c = rw c.if-end.true (omega arith)

pub returns-else-end : goal.returns-else-end
returns-else-end c = rw c.if-end.false (omega arith)
