-- The parts, as they stand.
use mathlib.Core.Path.{refl}
use Rattle.limits.specs.Known.{only_timed}
use Rattle.limits.proofs.timed.only_timed.Goals as goal

pub returns : goal.returns
unfolding only_timed
returns c = refl
