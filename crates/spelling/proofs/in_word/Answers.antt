use borrow.Author.Rules.{rules}
use Rattle.spelling.specs.Tokens.{in_word}
use Rattle.spelling.proofs.in_word.Goals as goal

pub is_blank-requires : goal.is_blank-requires
unfolding in_word
is_blank-requires c = search rules

pub is_mark-requires : goal.is_mark-requires
unfolding in_word
is_mark-requires c = search rules

pub returns : goal.returns
unfolding in_word
returns c = rw (c.is_blank.ensures, c.is_mark.ensures)
