use Rattle.spelling.specs.Names.{is_name}
use Rattle.spelled_names.proofs.Such.{such_not, such_word, longer}
use mathlib.Core.Path.{ap}
use mathlib.Core.Bool.{not}
use Rattle.spelled_names.proofs.at_name.Goals as goal

pub at_some_word-requires : goal.at_some_word-requires
at_some_word-requires c = c.requires

pub returns-then-not-at_some_word : goal.returns-then-not-at_some_word
returns-then-not-at_some_word c = such_not _ _ _ is_name c.at_some_word.ensures (ap not c.if-not-at_some_word.true)

pub is_name-requires : goal.is_name-requires
is_name-requires c = let s = c.requires in (longer _ _ _ c.at_some_word.ensures (ap not c.if-not-at_some_word.false) s, s.within)

pub returns : goal.returns
returns c = such_word _ _ _ c.at_some_word.ensures (ap not c.if-not-at_some_word.false) is_name c.is_name.ensures
