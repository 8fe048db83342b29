-- The three rules, chained as in `settled_check`.
use mathlib.Core.Path.{sym, ◌∙◌}
use Rattle.verdict.proofs.Chain.{err_then, ok_then}
use Rattle.job.proofs.Clocked.{clocked_form}
use Rattle.job.proofs.Ranged.{well_formed_ranged}
use Rattle.validity.specs.declared.Rule.TheVariants.{Levels, Needs, Goals}
use Rattle.schedule.proofs.Chained.{rule_refused, rule_passed}
use Rattle.schedule.proofs.check_settled.Goals as goal

pub first_out_of_bounds-requires : goal.first_out_of_bounds-requires
first_out_of_bounds-requires c = let p = c.requires.1 in (p.0, p.1.known)

pub returns-in-Some : goal.returns-in-Some
returns-in-Some c x p = err_then _ (err_then _ (rule_refused _ x Levels (sym c.in-Some.is ∙ c.first_out_of_bounds.ensures x p.known)))

pub first_unmet-requires : goal.first_unmet-requires
first_unmet-requires c =
    let pre = c.requires in
    let p = pre.1 in
    (well_formed_ranged p.1.form, pre.0, (p.0, p.1.known))

pub returns-in-Some-first_unmet : goal.returns-in-Some-first_unmet
returns-in-Some-first_unmet c x p =
    err_then _
    (ok_then (rule_passed _ x Levels (sym c.in_default.is ∙ c.first_out_of_bounds.ensures x p.known))
    (rule_refused _ x Needs (sym c.in-Some-first_unmet.is ∙ c.first_unmet.ensures x p.known)))

pub first_missed-requires : goal.first_missed-requires
first_missed-requires c =
    let p = c.requires.1 in
    record { form = clocked_form _ p.1.form; known = (p.0, p.1.known) }

pub returns-in-Some-first_missed : goal.returns-in-Some-first_missed
returns-in-Some-first_missed c x p =
    ok_then
    (ok_then (rule_passed _ x Levels (sym c.in_default.is ∙ c.first_out_of_bounds.ensures x p.known))
    (rule_passed _ x Needs (sym c.in_default-first_unmet.is ∙ c.first_unmet.ensures x p.known)))
    (rule_refused _ x Goals (sym c.in-Some-first_missed.is ∙ c.first_missed.ensures x p.known p.one_value))

pub returns : goal.returns
returns c x p =
    ok_then
    (ok_then (rule_passed _ x Levels (sym c.in_default.is ∙ c.first_out_of_bounds.ensures x p.known))
    (rule_passed _ x Needs (sym c.in_default-first_unmet.is ∙ c.first_unmet.ensures x p.known)))
    (rule_passed _ x Goals (sym c.in_default-first_missed.is ∙ c.first_missed.ensures x p.known p.one_value))
