-- Part by part.
use mathlib.Core.Path.{ap, ◌∙◌}
use Rattle.job.specs.Model.{view}
use Rattle.origins.proofs.last_origin.Goals as goal

pub returns : goal.returns
returns c =
    let a = c.args in
    rw (
      c.step_of.ensures.0,
      c.condition_to.ensures.0 ∙ ap (view a.job.head a.job.bytes.now).condition_to c.number_of.ensures.0,
      c.of.ensures,
      c.value_of.ensures.0,
      c.tick_of.ensures.0,
    )
