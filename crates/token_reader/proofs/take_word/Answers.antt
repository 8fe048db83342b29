use Rattle.token_reader.proofs.Steps.{take_passes, take_goes, take_fails, clear, met}
use Rattle.token_reader.proofs.Tested.{word_inside, word_yes, word_no}
use Rattle.token_reader.proofs.take_word.Goals as goal

pub returns-then-is_some : goal.returns-then-is_some
returns-then-is_some c =
    let start = c in
    take_passes _ _ start.requires (met _ c.is_some.ensures c.if-is_some.true)

pub sees_word-requires : goal.sees_word-requires
sees_word-requires c =
    let start = c in
    start.requires

pub advance-requires : goal.advance-requires
advance-requires c =
    let at-sees-word = c in
    let start = at-sees-word in
    (start.requires, word_inside _ _ _ _ at-sees-word.sees_word.ensures c.if-sees_word.true)

pub returns-then-sees_word : goal.returns-then-sees_word
returns-then-sees_word c =
    let at-if2 = c in
    let at-sees-word = at-if2 in
    let at-if1 = at-sees-word in
    let start = at-if1 in
    take_goes _ _ start.requires (clear _ at-if1.is_some.ensures at-if1.if-is_some.false) (word_yes _ _ at-sees-word.sees_word.ensures at-if2.if-sees_word.true)
    c.advance.ensures

pub returns : goal.returns
returns c =
    let at-if2 = c in
    let at-sees-word = at-if2 in
    let at-if1 = at-sees-word in
    let start = at-if1 in
    take_fails _ _ start.requires (clear _ at-if1.is_some.ensures at-if1.if-is_some.false) (word_no _ _ at-sees-word.sees_word.ensures at-if2.if-sees_word.false) c.refuse.ensures
