-- The initial state, or the point of the run.
use mathlib.Core.Path.{refl}
use Rattle.laws.proofs.Chosen.{chosen_yes, chosen_no}
use Rattle.links.specs.Linking.{run_link}
use Rattle.links.proofs.support.run_link.Goals as goal

pub returns-then-run-low : goal.returns-then-run-low
unfolding run_link
returns-then-run-low c = chosen_yes _ _ _ c.if-run-low.true refl refl

pub returns : goal.returns
unfolding run_link
returns c = chosen_no _ _ _ c.if-run-low.false refl c.number_of.ensures.0
