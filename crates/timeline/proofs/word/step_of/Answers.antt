-- By the definition.
use Rattle.timeline.specs.Words.{word_step}
use borrow.Author.Rules.{rules}
use Rattle.timeline.proofs.word.step_of.Goals as goal

pub returns : goal.returns
unfolding word_step
returns c = search rules
