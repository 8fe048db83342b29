use mathlib.Core.Path.{refl}
use Rattle.spelling.specs.Tokens.{is_blank}
use Rattle.spelling.proofs.is_blank.Goals as goal

pub returns : goal.returns
unfolding is_blank
returns c = refl
