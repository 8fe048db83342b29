-- Part by part.
use Rattle.origins.proofs.point_origin.Goals as goal

pub returns : goal.returns
returns c =
    rw (
      c.step_of.ensures.0,
      c.offset_of.ensures,
      c.of.ensures,
      c.value_of.ensures.0,
      c.tick_of.ensures.0,
    )
