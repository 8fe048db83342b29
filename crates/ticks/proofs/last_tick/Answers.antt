-- The start of the point's step, and the point.
use native.Mathlib.Omega.{arith}
use Rattle.ticks.proofs.last_tick.Goals as goal

pub returns : goal.returns
returns c = (cc, omega arith)
