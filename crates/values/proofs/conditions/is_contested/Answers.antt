-- The value seen at its first tick, and the scan from there on.
use mathlib.Core.Path.{ap, ◌∙◌}
use native.Mathlib.Omega.{arith}
use Rattle.job.specs.Clocked.{clocked}
use Rattle.job.specs.Model.{view}
use Rattle.validity.specs.Ticks.{schedule_of, last_tick}
use Rattle.values.proofs.Breaks.{setters_listed, scan_rises, contested_there}
use Rattle.values.proofs.conditions.is_contested.Goals as goal

pub last_tick-last-requires : goal.last_tick-last-requires
last_tick-last-requires c =
    let p = c.requires in
    rw (c.step_of-step.ensures.0, c.number_of.ensures.0) p.condition.step

pub is_opposed-opposed-requires : goal.is_opposed-opposed-requires
is_opposed-opposed-requires c =
    let p = c.requires in
    (setters_listed p, scan_rises p c.value_of-value.ensures.0 c.opposing-from.ensures)

pub seen_at-requires : goal.seen_at-requires
seen_at-requires c =
    let p = c.requires in
    omega (arith, p.come.parts.to, setters_listed p)

pub returns : goal.returns
returns c =
    let a = c.args in
    contested_there c.requires
    c.value_of-value.ensures.0
    (c.last_tick-last.ensures.0 ∙ ap (last_tick (clocked (view a.job.head a.job.bytes.now)) (schedule_of a.starts.now))
    c.number_of.ensures.0)
    c.opposing-from.ensures c.step_of-step.ensures.0
    c.is_opposed-opposed.ensures c.seen_at.ensures
