-- The nine tests are those of `any 9`.
use mathlib.Core.Path.{refl}
use Rattle.laws.specs.Search.{any}
use Rattle.job.specs.Layout.{count_too_high}
use Rattle.job.proofs.layout.count_too_high.Goals as goal

pub returns : goal.returns
unfolding count_too_high any
returns c = refl
