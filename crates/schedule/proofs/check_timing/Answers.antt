-- A conflict of effects is refused, then a condition that fails; without either, the other three rules decide.
use Prim.Native.Nat.{ℕ}
use mathlib.Core.Path.{◌≡◌, refl, sym, ◌∙◌}
use mathlib.Core.List.{List}
use Rattle.std.specs.Prelude.{None}
use Rattle.laws.specs.Search.{first_where}
use Rattle.job.specs.Model.{Model}
use Rattle.job.specs.Clocked.{clocked, ClockedForm}
use Rattle.job.proofs.Clocked.{clocked_form}
use Rattle.validity.specs.declared.Rule.TheVariants.{Effects, Conditions}
use Rattle.validity.specs.Ticks.{schedule_of}
use Rattle.validity.specs.Checks.{conflicts, condition_fails}
use Rattle.points.proofs.ClockedRange.{form_range}
use Rattle.values.specs.Contested.{contested}
use Rattle.schedule.specs.Timed.{FormedPoints, Settled}
use Rattle.schedule.proofs.Chained.{none_below, same_where, rule_refused, rule_passed, conflict_refused, condition_refused, others_decide, none_conflict}
use Rattle.values.proofs.Contested.{contested_lowest}
use Rattle.schedule.proofs.check_timing.Goals as goal

module _
    {m : Model} {x : ℕ → ℕ} {points begins : List ℕ} (p : FormedPoints m x points begins)
    (none : None ≡ first_where (clocked m).effects (conflicts (clocked m) x))
  where
    form : ClockedForm (clocked m)
    form = clocked_form m p.form

    -- no two effects conflict
    settled : Settled m x points begins
    settled = record { form = p.form; known = p.known; one_value = none_conflict _ _ form (none_below _ _ none) }

    -- so the lowest condition that is contested fails
    failing : first_where m.conditions (contested (clocked m) x) ≡ first_where m.conditions (condition_fails (clocked m) x)
    failing = same_where _ _ _ (contested_lowest _ _ form.keeps_own refl)

pub first_conflict-requires : goal.first_conflict-requires
first_conflict-requires c = let p = c.requires.0 in (p.form, p.known)

pub returns-in-Some : goal.returns-in-Some
returns-in-Some c = conflict_refused _ _ (rule_refused _ _ Effects (sym c.in-Some.is ∙ c.first_conflict.ensures))

pub first_contested-requires : goal.first_contested-requires
first_contested-requires c =
    let p = c.requires in
    let w = settled p.0 (sym c.in_default.is ∙ c.first_conflict.ensures) in
    record { form = form_range (clocked_form _ p.0.form); known = p.0.known; one_value = w.one_value }

pub returns-in-Some-first_contested : goal.returns-in-Some-first_contested
returns-in-Some-first_contested c =
    let none = sym c.in_default.is ∙ c.first_conflict.ensures in
    condition_refused _ _ (rule_passed _ _ Effects none)
    (rule_refused _ _ Conditions (sym c.in-Some-first_contested.is ∙ c.first_contested.ensures ∙ failing c.requires.0 none))

pub check_settled-requires : goal.check_settled-requires
check_settled-requires c =
    (c.requires.1, (schedule_of c.args.timeline.starts.now, settled c.requires.0 (sym c.in_default.is ∙ c.first_conflict.ensures)))

pub returns : goal.returns
returns c =
    let none = sym c.in_default.is ∙ c.first_conflict.ensures in
    c.check_settled.ensures _ (settled c.requires.0 none)
    ∙ others_decide _ _ (rule_passed _ _ Effects none)
    (rule_passed _ _ Conditions (sym c.in_default-first_contested.is ∙ c.first_contested.ensures ∙ failing c.requires.0 none))
