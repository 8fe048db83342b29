-- By the definition.
use Rattle.timeline.specs.Words.{word_of}
use borrow.Author.Rules.{rules}
use Rattle.timeline.proofs.word.word_of.Goals as goal

pub returns : goal.returns
unfolding word_of
returns c = search rules
