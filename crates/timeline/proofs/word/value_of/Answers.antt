-- By the definition.
use Rattle.timeline.specs.Words.{word_value}
use borrow.Author.Rules.{rules}
use Rattle.timeline.proofs.word.value_of.Goals as goal

pub returns : goal.returns
unfolding word_value
returns c = search rules
