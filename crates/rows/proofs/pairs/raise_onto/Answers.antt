-- One order, or none.
use mathlib.Core.Path.{ap, ◌∙◌}
use Rattle.validity.specs.Ticks.{schedule_of}
use Rattle.orders.specs.Gaps.{strictly}
use Rattle.rows.proofs.Grouped.{onto_passes, onto_fails, onto_none, onto_one}
use Rattle.rows.proofs.pairs.raise_onto.Goals as goal

pub returns-then-value_of-origin : goal.returns-then-value_of-origin
returns-then-value_of-origin c n few first there =
    let o = c.args.origin in
    let w = c.args.word in
    let t = onto_passes o w c.value_of.ensures.0 c.tick_of.ensures.0 c.if-value_of-origin.true in
    onto_one n (schedule_of c.args.starts.now) o w _ _ _ few first there t.0 t.1 c.step_of.ensures.0
    (c.strictly-entry.ensures.0 ∙ ap (strictly o.at) c.offset_of.ensures) c.raise.ensures

pub returns-else-value_of-origin : goal.returns-else-value_of-origin
returns-else-value_of-origin c n few first there =
    let o = c.args.origin in
    let w = c.args.word in
    onto_none n (schedule_of c.args.starts.now) o w _
    (onto_fails o w c.value_of.ensures.0 c.tick_of.ensures.0 c.if-value_of-origin.false)
