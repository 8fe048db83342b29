-- Each of the six words is compared.
use borrow.Author.Rules.{rules}
use Rattle.spelling.specs.Names.{is_reserved}
use Rattle.spelled_names.proofs.is_reserved.Goals as goal

pub word_is-requires : goal.word_is-requires
unfolding is_reserved
word_is-requires c = search rules

pub word_is-requires-2 : goal.word_is-requires-2
unfolding is_reserved
word_is-requires-2 c = search rules

pub word_is-requires-3 : goal.word_is-requires-3
unfolding is_reserved
word_is-requires-3 c = search rules

pub word_is-requires-4 : goal.word_is-requires-4
unfolding is_reserved
word_is-requires-4 c = search rules

pub word_is-requires-5 : goal.word_is-requires-5
unfolding is_reserved
word_is-requires-5 c = search rules

pub word_is-requires-6 : goal.word_is-requires-6
unfolding is_reserved
word_is-requires-6 c = search rules

pub returns : goal.returns
unfolding is_reserved
returns c =
    let fifth = c in
    let fourth = fifth in
    let third = fourth in
    let second = third in
    let first = second in
    rw (
      first.word_is.ensures,
      second.word_is-2.ensures,
      third.word_is-3.ensures,
      fourth.word_is-4.ensures,
      fifth.word_is-5.ensures,
      c.word_is-6.ensures,
    )
