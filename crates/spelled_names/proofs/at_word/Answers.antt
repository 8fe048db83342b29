use Rattle.spelling.specs.Keywords.{same}
use Rattle.spelled_names.proofs.Such.{such_is}
use Rattle.spelled_names.proofs.at_word.Goals as goal

pub at_some_word-requires : goal.at_some_word-requires
at_some_word-requires c = c.requires

pub word_is-requires : goal.word_is-requires
word_is-requires c = let s = c.requires in (s.onward, s.within)

pub returns : goal.returns
returns c = such_is _ _ _ (λ w. same w _) c.at_some_word.ensures c.word_is.ensures
