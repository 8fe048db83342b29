-- From the first of its fact's setters at its tick on.
use mathlib.Core.Path.{sym, ◌∙◌}
use native.Mathlib.Omega.{arith}
use Rattle.job.specs.Model.{view}
use Rattle.validity.specs.Ticks.{schedule_of}
use Rattle.points.proofs.Own.{own_tick}
use Rattle.values.proofs.Conflicts.{own_listed, own_fact, own_value, own_step_lem, effect_walking, scan_ready, conflict_is}
use Rattle.values.proofs.effects.conflicts.Goals as goal

pub begin_at-low-requires : goal.begin_at-low-requires
begin_at-low-requires c = let p = c.requires in omega (arith, p.1.room, p.0.effect_fact _ p.2, c.effect_fact-fact.ensures)

pub begin_at-high-requires : goal.begin_at-high-requires
begin_at-high-requires c =
    let p = c.requires in
    omega (arith, p.1.room, p.0.effect_fact _ p.2, c.effect_fact-fact.ensures)

pub advance-first-requires : goal.advance-first-requires
advance-first-requires c =
    let m = view c.args.timeline.job.head c.args.timeline.job.bytes.now in
    let p = c.requires in
    let fact = own_fact m c.args.e p.2 c.effect_fact-fact.ensures in
    effect_walking p.1 c.args.e (own_listed m p.0 _ p.2) fact c.begin_at-low.ensures.0 c.begin_at-high.ensures.0 _

pub opposed_from-requires : goal.opposed_from-requires
opposed_from-requires c =
    let m = view c.args.timeline.job.head c.args.timeline.job.bytes.now in
    let p = c.requires in
    let fact = own_fact m c.args.e p.2 c.effect_fact-fact.ensures in
    scan_ready p.1 c.args.e (own_listed m p.0 _ p.2) fact c.begin_at-low.ensures.0
    c.begin_at-high.ensures.0 c.advance-first.ensures.0

pub returns : goal.returns
returns c =
    let m = view c.args.timeline.job.head c.args.timeline.job.bytes.now in
    let e = c.args.e in
    let p = c.requires in
    let fact = own_fact m e p.2 c.effect_fact-fact.ensures in
    let value = own_value m e p.2 c.effect_value-value.ensures in
    let step = own_step_lem m e p.2 c.effect_step.ensures in
    let read = c.effect_tick-tick.ensures.0 in
    let tick = read ∙ sym (own_tick m (schedule_of c.args.timeline.starts.now) e p.2) in
    conflict_is p.1 e (own_listed m p.0 e p.2) fact c.begin_at-low.ensures.0
    c.begin_at-high.ensures.0 c.advance-first.ensures.0 tick value step
    c.opposed_from.ensures
