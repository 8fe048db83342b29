-- The note's role, the look-up of its name and what is told of it decide.
use native.Mathlib.Omega.{arith}
use mathlib.Core.Path.{sym, ap, ◌∙◌}
use Rattle.std.specs.Prelude.{Some, None}
use Rattle.naming.specs.Index.{mixed}
use Rattle.naming.proofs.Stepping.{counts_low, step_number, step_again, step_new, name_part, looked_name}
use Rattle.naming.proofs.passing.pass_item.Goals as goal

pub returns-then-role-eq-NUMBER : goal.returns-then-role-eq-NUMBER
returns-then-role-eq-NUMBER c =
    step_number c.args.text.now c.args.said.now c.args.k c.requires.0 c.requires.1 c.requires.2
    (sym c.role.ensures ∙ c.if-role-eq-NUMBER.true)

pub enter-requires : goal.enter-requires
enter-requires c =
    let p = c.requires in (
      c.mix.ensures.1,
      omega (arith, c.role-in-None.ensures, (p.0.each c.args.k p.1).known),
      omega (arith, p.0.few, p.1),
      p.2.indexed.size,
      p.2.numbers_size,
      p.2.marks_size,
      p.2.counts_size,
      counts_low c.args.text.now c.args.said.now c.args.k p.0 p.1 p.2 c.role-in-None.result,
    )

pub returns-in-Some : goal.returns-in-Some
returns-in-Some c =
    let a = c.args in
    let looked = looked_name _ _ (Some _) a.text.now _ c.name_at.ensures.0 c.name_end.ensures.0 c.in-Some.ensures in
    step_again a.text.now a.said.now a.k c.requires.0 c.requires.1 c.requires.2 (λ e. c.if-role-eq-NUMBER.false (c.role.ensures ∙ e))
    c.in-Some.first looked c.repeat.ensures

pub returns-in-None : goal.returns-in-None
returns-in-None c =
    let a = c.args in
    let at = c.name_at.ensures.0 in
    let end = c.name_end.ensures.0 in
    let looked = looked_name _ _ None a.text.now _ at end c.in-None.ensures in
    let e = c.enter.ensures in
    step_new a.text.now a.said.now a.k c.requires.0 c.requires.1 c.requires.2 (λ e. c.if-role-eq-NUMBER.false (c.role.ensures ∙ e))
    _ _ looked (c.mix.ensures.0 ∙ ap (mixed 0) (name_part a.text.now _ at end)) c.role-in-None.ensures
    e.index_after e.numbers_after e.marks_after e.counts_after
