-- Refusals 8 and 9, then what the walks leave open.
use Prim.Native.Nat.{ℕ}
use mathlib.Core.Path.{◌∙◌}
use mathlib.Core.List.{List}
use Rattle.job.specs.Model.{Model}
use Rattle.job.specs.Clocked.{clocked}
use Rattle.verdict.proofs.Chain.{handed, err_then, ok_then}
use Rattle.validity.specs.declared.Rule.TheVariants.{Effects, Conditions}
use Rattle.validity.specs.Ticks.{schedule_of}
use Rattle.validity.specs.Checks.{starts_check}
use Rattle.schedule.specs.Timed.{FormedPoints, Clear, Settled}
use Rattle.schedule.proofs.Chained.{rule_ended, others_decide}
use Rattle.values.proofs.Conflicts.{one_value_lowest}
use Rattle.schedule.proofs.check_clear.Goals as goal

-- where the walks found nothing, no two effects conflict
cleared :
    {m : Model} {x : ℕ → ℕ} {points begins : List ℕ} → FormedPoints m x points begins → Clear (clocked m) x
    → Settled m x points begins
cleared p w = record { form = p.form; known = p.known; one_value = w.one_value }

pub returns-in_err-check_starts : goal.returns-in_err-check_starts
unfolding starts_check
returns-in_err-check_starts c = handed _ c.from_residual.ensures.1 ∙ err_then _ c.in_err-check_starts.ensures

pub check_settled-requires : goal.check_settled-requires
check_settled-requires c =
    let p = c.requires in
    (p.2, (schedule_of c.args.timeline.starts.now, cleared p.0 p.1))

pub returns : goal.returns
unfolding starts_check
returns c =
    let p = c.requires in
    ok_then c.in_ok-check_starts.ensures
    (c.check_settled.ensures _ (cleared p.0 p.1) ∙ others_decide _ _ (rule_ended _ _ Effects (one_value_lowest _ _ p.1.one_value)) (rule_ended _ _ Conditions p.1.none_fails))
