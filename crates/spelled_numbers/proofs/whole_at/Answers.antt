use Rattle.spelled_numbers.proofs.Read.{whole_is, whole_word}
use mathlib.Core.Path.{ap}
use mathlib.Core.Bool.{not}
use Rattle.spelled_numbers.proofs.whole_at.Goals as goal

pub at_some_word-requires : goal.at_some_word-requires
at_some_word-requires c = c.requires

pub returns-then-not-at_some_word : goal.returns-then-not-at_some_word
returns-then-not-at_some_word c = whole_is _ _ _ c.at_some_word.ensures (ap not c.if-not-at_some_word.true)

pub read_whole-requires : goal.read_whole-requires
read_whole-requires c = let s = c.requires in (s.onward, s.within)

pub returns : goal.returns
returns c = whole_word _ _ _ c.at_some_word.ensures (ap not c.if-not-at_some_word.false) c.read_whole.ensures
