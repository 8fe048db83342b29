-- Refusals 1 to 6, then the others of the given starts.
use mathlib.Core.Path.{◌≡◌, sym, ap, ap₂, ◌∙◌}
use mathlib.Core.List.{List}
use Prim.Native.Nat.{ℕ}
use Rattle.std.specs.Prelude.{Ok}
use Rattle.verdict.specs.Verdict.{number, ◌then◌}
use Rattle.verdict.proofs.Chain.{handed, err_then}
use Rattle.job.specs.declared.layout.Job.{Job}
use Rattle.job.specs.Model.{view}
use Rattle.job.specs.Clocked.{clocked}
use Rattle.record_check.specs.Records.{RecordsPromise}
use Rattle.form.proofs.Decides.{read_refused}
use Rattle.validity.specs.Checks.{starts_check, schedule_check}
use Rattle.validity.proofs.Accepted.{schedule_promise}
use Rattle.schedule.specs.Opened.{Read}
use Rattle.schedule.proofs.Reading.{read_form}
use Rattle.schedule.proofs.check_schedule.Goals as goal

-- 1 to 6 have passed the file
passed : {s : List ℕ} {job : Job} → RecordsPromise s (Ok job) → Read s job
passed f = record { passed = sym (ap number f.verdict); header = f.job }

pub returns-in_err-head : goal.returns-in_err-head
unfolding schedule_check
returns-in_err-head c =
    rw (handed _ c.from_residual.ensures.1) (schedule_promise _ _ (err_then _ (read_refused c.in_err-head.ensures)))

pub check_read-requires : goal.check_read-requires
check_read-requires c = passed c.in_ok-head.ensures

pub returns : goal.returns
unfolding schedule_check
returns c =
    let a = c.args in
    let p = passed c.in_ok-head.ensures in
    schedule_promise _ _
    (c.check_read.ensures
    ∙ ap₂ ◌then◌ (read_form p) (ap (λ (j : Job). starts_check (clocked (view j a.s.now)) a.starts.now) p.header))
