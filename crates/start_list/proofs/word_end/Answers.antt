-- The bytes passed are of the word.
use Rattle.start_list.proofs.Words.{passed_start, passed_more, word_comma, word_last}
use Rattle.start_list.proofs.word_end.Goals as goal

pub loop-k-init : goal.loop-k-init
loop-k-init c = passed_start _ c.requires

pub returns-then-text-k-eq44 : goal.returns-then-text-k-eq44
returns-then-text-k-eq44 c = word_comma c.loop-k.invariant c.loop-k-test.true c.if-text-k-eq44.true

pub loop-k-preserved : goal.loop-k-preserved
loop-k-preserved c = passed_more c.loop-k.invariant c.loop-k-test.true c.if-text-k-eq44.false

pub returns : goal.returns
returns c = word_last c.loop-k.invariant c.loop-k-test.false
