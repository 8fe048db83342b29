-- The name, the action that is found and the two durations decide.
use Prim.Native.Nat.{◌+◌, ◌*◌}
use mathlib.Core.Path.{sym, ◌∙◌}
use native.Mathlib.Omega.{arith}
use Rattle.plan_check.proofs.Lines.{line_unnamed, line_none, line_other, line_found}
use Rattle.plan_check.proofs.line_action.Goals as goal

pub returns-then-role-eq-NUMBER : goal.returns-then-role-eq-NUMBER
returns-then-role-eq-NUMBER c =
    let a = c.args in
    line_unnamed a.text.now a.said.now a.plan.now a.lines.now a.s c.requires.3 c.requires.0
    (sym c.role.ensures ∙ c.if-role-eq-NUMBER.true)

pub find_action-found-requires : goal.find_action-found-requires
find_action-found-requires c =
    let p = c.requires in
    let sound = p.2.each (3 * c.args.s + 1) (omega (arith, p.3)) in (
      p.0,
      p.1,
      omega (arith, c.name_at.ensures.0, c.name_end.ensures.1),
      omega (arith, c.name_end.ensures.0, sound.inside (λ e. c.if-role-eq-NUMBER.false (c.role.ensures ∙ e))),
    )

pub returns-in_err-action : goal.returns-in_err-action
returns-in_err-action c =
    let a = c.args in
    rw c.from_residual.ensures
    (line_none a.text.now a.said.now a.plan.now a.lines.now a.s c.requires.3
    (λ e. c.if-role-eq-NUMBER.false (c.role.ensures ∙ e)) c.name_at.ensures.0 c.name_end.ensures.0 (rw c.in_err-action.was at c.find_action-found.ensures))

pub returns-then-number_at-number_of : goal.returns-then-number_at-number_of
returns-then-number_at-number_of c =
    let a = c.args in
    line_other a.text.now a.said.now a.plan.now a.lines.now a.s c.requires.3
    (λ e. c.if-role-eq-NUMBER.false (c.role.ensures ∙ e)) c.name_at.ensures.0 c.name_end.ensures.0 (rw c.in_ok-action.was at c.find_action-found.ensures)
    (c.number_at.ensures a.text.now)
    (c.number_of.ensures a.plan.now) c.if-number_at-number_of.true

pub returns : goal.returns
returns c =
    let a = c.args in
    line_found a.text.now a.said.now a.plan.now a.lines.now a.s c.requires.3
    (λ e. c.if-role-eq-NUMBER.false (c.role.ensures ∙ e)) c.name_at.ensures.0 c.name_end.ensures.0 (rw c.in_ok-action.was at c.find_action-found.ensures)
    (c.number_at.ensures a.text.now)
    (c.number_of.ensures a.plan.now) c.if-number_at-number_of.false
