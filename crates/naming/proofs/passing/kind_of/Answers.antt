-- A test a kind.
use native.Mathlib.Omega.{arith}
use Rattle.naming.proofs.Roles.{is_fact, is_level, is_action, is_line}
use Rattle.naming.proofs.passing.kind_of.Goals as goal

pub returns-then-role-ge-WANTED : goal.returns-then-role-ge-WANTED
returns-then-role-ge-WANTED c = is_fact _ c.requires (omega arith)

pub returns-then-role-ge-STOCK : goal.returns-then-role-ge-STOCK
returns-then-role-ge-STOCK c = is_level _ c.requires (omega arith) (omega arith)

pub returns-then-role-eq-ACTION : goal.returns-then-role-eq-ACTION
returns-then-role-eq-ACTION c = is_action _ c.requires c.if-role-eq-ACTION.true

pub returns-else-role-eq-ACTION : goal.returns-else-role-eq-ACTION
returns-else-role-eq-ACTION c = is_line _ c.requires (omega arith) c.if-role-eq-ACTION.false
