-- One order, or none.
use mathlib.Core.Path.{sym, ◌∙◌}
use Rattle.validity.specs.Ticks.{schedule_of}
use Rattle.rows.proofs.Beside.{beside_none, beside_one}
use Rattle.rows.proofs.pairs.raise_beside.Goals as goal

pub returns-then-value_of-origin : goal.returns-then-value_of-origin
returns-then-value_of-origin c =
    beside_one (schedule_of c.args.starts.now) c.args.origin c.args.from c.args.word _ _ _ c.requires.1.step c.requires.3.step
    (sym c.value_of.ensures.0 ∙ c.if-value_of-origin.true) c.tick_of.ensures.0 c.step_of-step.ensures.0 c.offset_of-at.ensures
    c.select_unpredictable-i.ensures c.select_unpredictable-k.ensures c.select_unpredictable-p.ensures c.select_unpredictable-q.ensures c.strictly.ensures.0
    c.raise.ensures

pub returns-else-value_of-origin : goal.returns-else-value_of-origin
returns-else-value_of-origin c =
    beside_none (schedule_of c.args.starts.now) c.args.origin c.args.from c.args.word _
    (λ e. c.if-value_of-origin.false (c.value_of.ensures.0 ∙ e))
