-- By the definition.
use Rattle.timeline.specs.Words.{word_group}
use borrow.Author.Rules.{rules}
use Rattle.timeline.proofs.word.group_of.Goals as goal

pub returns : goal.returns
unfolding word_group
returns c = search rules
