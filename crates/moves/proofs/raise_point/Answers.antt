-- The step and the offset are the point's.
use native.Mathlib.Omega.{arith}
use Rattle.moves.specs.Moved.{Up}
use Rattle.moves.proofs.Moved.{up_same, up_on, moved_none, after_one}
use Rattle.moves.proofs.raise_point.Goals as goal

pub overflow_add-tick : goal.overflow_add-tick
overflow_add-tick c = omega (arith, c.requires.2 _ c.in-Some.is)

pub raise_limit-requires : goal.raise_limit-requires
raise_limit-requires c = (omega (arith, c.step_of.ensures.0, c.requires.0), omega (arith, c.requires.2 _ c.in-Some.is))

pub returns-in-Some : goal.returns-in-Some
returns-in-Some c = after_one _ _ _ c.in-Some.is (rw (c.step_of.ensures.0, c.offset_in.ensures) at c.raise_limit.ensures)

pub returns-in_default : goal.returns-in_default
returns-in_default c = moved_none Up up_same up_on _ _ (λ k v o. c.in_default.not-Some o.0 o.1)
