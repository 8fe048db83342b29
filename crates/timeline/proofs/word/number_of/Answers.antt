-- By the definition.
use Rattle.timeline.specs.Words.{word_number}
use borrow.Author.Rules.{rules}
use Rattle.timeline.proofs.word.number_of.Goals as goal

pub returns : goal.returns
unfolding word_number
returns c = search rules
