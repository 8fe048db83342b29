-- The parts, as they stand.
use mathlib.Core.Path.{refl}
use Rattle.point_words.specs.Own.{untimed}
use Rattle.point_words.proofs.own.untimed.Goals as goal

pub returns : goal.returns
unfolding untimed
returns c = refl
