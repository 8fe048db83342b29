-- By the definition.
use Rattle.timeline.specs.Words.{word_tick}
use borrow.Author.Rules.{rules}
use Rattle.timeline.proofs.word.tick_of.Goals as goal

pub returns : goal.returns
unfolding word_tick
returns c = search rules
