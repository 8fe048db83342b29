use Rattle.spelled_numbers.proofs.Read.{time_is, time_word}
use mathlib.Core.Path.{ap}
use mathlib.Core.Bool.{not}
use Rattle.spelled_numbers.proofs.time_at.Goals as goal

pub at_some_word-requires : goal.at_some_word-requires
at_some_word-requires c = c.requires

pub returns-then-not-at_some_word : goal.returns-then-not-at_some_word
returns-then-not-at_some_word c = time_is _ _ _ c.at_some_word.ensures (ap not c.if-not-at_some_word.true)

pub read_time-requires : goal.read_time-requires
read_time-requires c = let s = c.requires in (s.onward, s.within)

pub returns : goal.returns
returns c = time_word _ _ _ c.at_some_word.ensures (ap not c.if-not-at_some_word.false) c.read_time.ensures
