-- The tests are those of `edition_known`.
use mathlib.Core.Path.{refl}
use Rattle.header_check.specs.Header.{edition_known}
use Rattle.header_check.proofs.edition_known.Goals as goal

pub returns : goal.returns
unfolding edition_known
returns c = refl
