-- A remainder is below what divides.
use mathlib.Core.Path.{refl}
use native.Mathlib.Omega.{arith}
use Rattle.self_check.specs.Keys.{step_key}
use borrow.Author.Rules.{rules}
use Rattle.self_check.proofs.step_key.Goals as goal

pub returns : goal.returns
unfolding step_key
returns c = (refl, omega arith)
