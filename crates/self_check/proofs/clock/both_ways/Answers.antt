-- The three fields are compared.
use mathlib.Core.Path.{refl}
use Rattle.self_check.proofs.clock.both_ways.Goals as goal

pub returns : goal.returns
returns c = refl
