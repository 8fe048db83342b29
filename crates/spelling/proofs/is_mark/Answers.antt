use mathlib.Core.Path.{refl}
use Rattle.spelling.specs.Tokens.{is_mark}
use Rattle.spelling.proofs.is_mark.Goals as goal

pub returns : goal.returns
unfolding is_mark
returns c = refl
