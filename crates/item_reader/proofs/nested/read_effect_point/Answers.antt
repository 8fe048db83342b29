use Rattle.item_reader.proofs.Likeness.{change_end, change_start}
use Rattle.token_reader.proofs.Compose.{lead, stands, then}
use Rattle.item_reader.proofs.nested.read_effect_point.Goals as goal

pub sees_word-requires : goal.sees_word-requires
sees_word-requires c =
    let start = c in
    start.requires.stands

pub take_word-inner-requires : goal.take_word-inner-requires
take_word-inner-requires c =
    let start = c in
    start.requires.stands

pub read_change-read-requires : goal.read_change-read-requires
read_change-read-requires c =
    let at-take-word = c in
    let start = at-take-word in
    let p1 = at-take-word.take_word-inner.ensures.reads _ start.requires in
    p1.ready

pub take_bracket-requires : goal.take_bracket-requires
take_bracket-requires c =
    let at-read-change = c in
    at-read-change.read_change-read.ensures.ready.stands

pub shape_of-said-then-sees_word : goal.shape_of-said-then-sees_word
shape_of-said-then-sees_word c =
    let at-read-change = c in
    at-read-change.read_change-read.ensures.size

pub returns-then-sees_word : goal.returns-then-sees_word
returns-then-sees_word c =
    let at-read-change = c in
    let at-take-word = at-read-change in
    let at-if1 = at-take-word in
    let at-sees-word = at-if1 in
    let start = at-sees-word in
    let p1 = at-take-word.take_word-inner.ensures.reads _ start.requires in
    let p2 = at-read-change.read_change-read.ensures in
    let p3 = c.take_bracket.ensures.reads _ at-read-change.read_change-read.ensures.ready in
    stands start.requires.stands (λ _. change_start _ at-sees-word.sees_word.ensures at-if1.if-sees_word.true) (then p1 (then p2 (lead p3)))

pub take_word-inner-requires-2 : goal.take_word-inner-requires-2
take_word-inner-requires-2 c =
    let start = c in
    start.requires.stands

pub read_change-read-requires-2 : goal.read_change-read-requires-2
read_change-read-requires-2 c =
    let at-take-word2 = c in
    let start = at-take-word2 in
    let p1 = at-take-word2.take_word-inner-2.ensures.reads _ start.requires in
    p1.ready

pub take_bracket-requires-2 : goal.take_bracket-requires-2
take_bracket-requires-2 c =
    let at-read-change2 = c in
    at-read-change2.read_change-read-2.ensures.ready.stands

pub shape_of-said : goal.shape_of-said
shape_of-said c =
    let at-read-change2 = c in
    at-read-change2.read_change-read-2.ensures.size

pub returns : goal.returns
returns c =
    let at-read-change2 = c in
    let at-take-word2 = at-read-change2 in
    let at-if1 = at-take-word2 in
    let at-sees-word = at-if1 in
    let start = at-sees-word in
    let p1 = at-take-word2.take_word-inner-2.ensures.reads _ start.requires in
    let p2 = at-read-change2.read_change-read-2.ensures in
    let p3 = c.take_bracket-2.ensures.reads _ at-read-change2.read_change-read-2.ensures.ready in
    stands start.requires.stands (λ _. change_end _ at-sees-word.sees_word.ensures at-if1.if-sees_word.false) (then p1 (then p2 (lead p3)))
