-- The sum of the counts.
use mathlib.Core.Path.{refl}
use Rattle.points.proofs.words.groups_counted.Goals as goal

pub returns : goal.returns
returns c = refl
