-- The tick decides, or leaves the answer to the other fields.
use Rattle.self_check.proofs.Steps.{uses_twice_not, uses_twice_rest}
use Rattle.self_check.proofs.uses_twice.Goals as goal

pub returns-then-use_at : goal.returns-then-use_at
returns-then-use_at c = uses_twice_not _ _ _ c.use_at.ensures.0 c.use_at-2.ensures.0 c.if-use_at.true

pub returns : goal.returns
returns c =
    rw (c.use_level-2.ensures, c.use_level.ensures, c.use_step-2.ensures, c.use_step.ensures)
    (uses_twice_rest _ _ _ c.use_at.ensures.0 c.use_at-2.ensures.0 c.if-use_at.false)
