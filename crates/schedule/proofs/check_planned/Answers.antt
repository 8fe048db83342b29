-- Of a file that 1 to 6 pass, refusals 7 to 13 and 21 of the planned starts are the job check.
use mathlib.Core.Path.{ap, ap₂, ◌∙◌}
use Rattle.verdict.specs.Verdict.{◌then◌}
use Rattle.job.specs.declared.layout.Job.{Job}
use Rattle.job.specs.Model.{view}
use Rattle.job.specs.Clocked.{clocked}
use Rattle.validity.specs.Ticks.{planned}
use Rattle.validity.specs.Checks.{starts_check, timing_check, job_check}
use Rattle.validity.proofs.Accepted.{job_promise}
use Rattle.validity.proofs.Planned.{planned_check}
use Rattle.schedule.proofs.Reading.{read_form}
use Rattle.schedule.proofs.check_planned.Goals as goal

pub check_ordered-requires : goal.check_ordered-requires
unfolding job_check
check_ordered-requires c = let p = c.requires in record { read = p.read; known = p.known }

pub returns : goal.returns
unfolding job_check
returns c =
    let s = c.args.timeline.job.bytes.now in
    let m = clocked (view c.args.timeline.job.head s) in
    job_promise s
    (c.check_ordered.ensures
    ∙ ap₂ ◌then◌ (read_form c.requires.read)
    (ap (starts_check m) c.requires.written ∙ planned_check m
    ∙ ap (λ (j : Job). timing_check (clocked (view j s)) (planned (view j s))) c.requires.read.header))
