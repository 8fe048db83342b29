-- The others of the written starts, of which none is moved.
use mathlib.Core.Path.{ap, ap₂, ◌∙◌}
use Rattle.verdict.specs.Verdict.{◌then◌}
use Rattle.job.specs.declared.layout.Job.{Job}
use Rattle.job.specs.Model.{view}
use Rattle.job.specs.Clocked.{clocked}
use Rattle.validity.specs.Ticks.{planned}
use Rattle.validity.specs.Checks.{starts_check, timing_check, job_check}
use Rattle.validity.proofs.Accepted.{job_promise}
use Rattle.validity.proofs.Planned.{planned_check}
use Rattle.schedule.proofs.Reading.{read_form}
use Rattle.schedule.proofs.check_opened.Goals as goal

pub returns : goal.returns
unfolding job_check
returns c =
    let passed = c.requires.0 in
    let s = c.args.job.bytes.now in
    let j = c.args.job.head in
    job_promise s
    (c.check_read.ensures
    ∙ ap₂ ◌then◌ (read_form passed)
    (ap (starts_check (clocked (view j s))) c.planned_starts-starts.ensures.1 ∙ planned_check (clocked (view j s))
    ∙ ap (λ (k : Job). timing_check (clocked (view k s)) (planned (view k s))) passed.header))
