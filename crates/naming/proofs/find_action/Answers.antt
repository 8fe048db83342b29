-- The first appearance of a name is an action, or no item of that name is.
use mathlib.Core.Path.{sym, ◌∙◌}
use Rattle.std.specs.Prelude.{Some, None}
use Rattle.naming.proofs.Acting.{action_found, action_other, action_none}
use Rattle.naming.proofs.Looking.{looked_part}
use Rattle.naming.proofs.find_action.Goals as goal

pub returns-in_err-first : goal.returns-in_err-first
returns-in_err-first c =
    let a = c.args in
    rw c.from_residual.ensures (action_none a.text.now a.said.now _ (looked_part _ _ None a.at a.end a.plan.now c.in_err-first.ensures))

pub returns-then-is_action : goal.returns-then-is_action
returns-then-is_action c =
    let a = c.args in
    action_found a.text.now a.said.now _ _ (looked_part _ _ (Some _) a.at a.end a.plan.now c.in_ok-first.ensures)
    (sym c.role-is_action.ensures ∙ c.if-is_action.true)

pub returns-else-is_action : goal.returns-else-is_action
returns-else-is_action c =
    let a = c.args in
    action_other a.text.now a.said.now _ _ (looked_part _ _ (Some _) a.at a.end a.plan.now c.in_ok-first.ensures) a.index.now
    c.requires.0 c.requires.1 (λ e. c.if-is_action.false (c.role-is_action.ensures ∙ e))
