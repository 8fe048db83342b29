use Rattle.item_reader.proofs.Likeness.{at_alike, over_alike}
use Rattle.token_reader.proofs.Compose.{lead, stands, then}
use Rattle.item_reader.proofs.nested.read_condition.Goals as goal

pub sees_word-requires : goal.sees_word-requires
sees_word-requires c =
    let start = c in
    start.requires.0.stands

pub take_word-inner-requires : goal.take_word-inner-requires
take_word-inner-requires c =
    let start = c in
    start.requires.0.stands

pub read_condition_point-requires : goal.read_condition_point-requires
read_condition_point-requires c =
    let at-take-word = c in
    let start = at-take-word in
    let p1 = at-take-word.take_word-inner.ensures.reads _ start.requires.0 in
    p1.ready

pub shape_of-said-then-sees_word : goal.shape_of-said-then-sees_word
shape_of-said-then-sees_word c =
    let at-read-condition-point = c in
    at-read-condition-point.read_condition_point.ensures.size

pub returns-then-sees_word : goal.returns-then-sees_word
returns-then-sees_word c =
    let at-read-condition-point = c in
    let at-take-word = at-read-condition-point in
    let at-if1 = at-take-word in
    let at-sees-word = at-if1 in
    let start = at-sees-word in
    let p1 = at-take-word.take_word-inner.ensures.reads _ start.requires.0 in
    let p2 = at-read-condition-point.read_condition_point.ensures in
    λ n. stands start.requires.0.stands (λ _. at_alike _ n start.requires.1 at-sees-word.sees_word.ensures at-if1.if-sees_word.true)
    (then p1 (lead p2))

pub take_word-over-requires : goal.take_word-over-requires
take_word-over-requires c =
    let start = c in
    start.requires.0.stands

pub take_word-all-requires : goal.take_word-all-requires
take_word-all-requires c =
    let at-take-word2 = c in
    at-take-word2.take_word-over.ensures.stands

pub read_literal-read-requires : goal.read_literal-read-requires
read_literal-read-requires c =
    let at-take-word3 = c in
    let at-take-word2 = at-take-word3 in
    let start = at-take-word2 in
    let p1 = at-take-word2.take_word-over.ensures.reads _ start.requires.0 in
    let p2 = at-take-word3.take_word-all.ensures.reads _ p1.ready in
    p2.ready

pub take_bracket-requires : goal.take_bracket-requires
take_bracket-requires c =
    let at-read-literal = c in
    at-read-literal.read_literal-read.ensures.ready.stands

pub shape_of-said : goal.shape_of-said
shape_of-said c =
    let at-read-literal = c in
    at-read-literal.read_literal-read.ensures.size

pub returns : goal.returns
returns c =
    let at-read-literal = c in
    let at-take-word3 = at-read-literal in
    let at-take-word2 = at-take-word3 in
    let at-if1 = at-take-word2 in
    let at-sees-word = at-if1 in
    let start = at-sees-word in
    let p1 = at-take-word2.take_word-over.ensures.reads _ start.requires.0 in
    let p2 = at-take-word3.take_word-all.ensures.reads _ p1.ready in
    let p3 = at-read-literal.read_literal-read.ensures in
    let p4 = c.take_bracket.ensures.reads _ at-read-literal.read_literal-read.ensures.ready in
    λ n. stands start.requires.0.stands (λ _. over_alike _ n start.requires.1 at-sees-word.sees_word.ensures at-if1.if-sees_word.false)
    (then p1 (then p2 (then p3 (lead p4))))
