use Rattle.item_reader.proofs.Likeness.{not_alike, plain_alike}
use Rattle.item_reader.proofs.Roles.{as_fact, fact_some}
use Rattle.token_reader.proofs.Compose.{lead, stands, then}
use mathlib.Core.Bool.{false, true}
use Rattle.item_reader.proofs.literals.read_fact.Goals as goal

pub sees_word-requires : goal.sees_word-requires
sees_word-requires c =
    let start = c in
    start.requires.stands

pub take_word-inner-requires : goal.take_word-inner-requires
take_word-inner-requires c =
    let start = c in
    start.requires.stands

pub take_bracket-opened-requires : goal.take_bracket-opened-requires
take_bracket-opened-requires c = c.take_word-inner.ensures.stands

pub take_name-named-requires : goal.take_name-named-requires
take_name-named-requires c =
    let at-fact-role = c in
    let at-take-bracket = at-fact-role in
    let at-take-word = at-take-bracket in
    let start = at-take-word in
    let p1 = at-take-word.take_word-inner.ensures.reads _ start.requires in
    let p2 = at-take-bracket.take_bracket-opened.ensures.reads _ p1.ready in
    (p2.ready, fact_some start.args.place false at-fact-role.fact_role-role.ensures.0, at-fact-role.fact_role-role.ensures.1)

pub take_bracket-closed-requires : goal.take_bracket-closed-requires
take_bracket-closed-requires c =
    let at-take-name = c in
    at-take-name.take_name-named.ensures.ready.stands

pub take_bracket-requires : goal.take_bracket-requires
take_bracket-requires c = c.take_bracket-closed.ensures.stands

pub shape_of-said-then-sees_word : goal.shape_of-said-then-sees_word
shape_of-said-then-sees_word c =
    let at-take-name = c in
    at-take-name.take_name-named.ensures.size

pub returns-then-sees_word : goal.returns-then-sees_word
returns-then-sees_word c =
    let at-take-bracket2 = c in
    let at-take-name = at-take-bracket2 in
    let at-fact-role = at-take-name in
    let at-take-bracket = at-fact-role in
    let at-take-word = at-take-bracket in
    let at-if1 = at-take-word in
    let at-sees-word = at-if1 in
    let start = at-sees-word in
    let p1 = at-take-word.take_word-inner.ensures.reads _ start.requires in
    let p2 = at-take-bracket.take_bracket-opened.ensures.reads _ p1.ready in
    let p3 = as_fact start.args.place false at-fact-role.fact_role-role.ensures.0 at-take-name.take_name-named.ensures in
    let p4 = at-take-bracket2.take_bracket-closed.ensures.reads _ at-take-name.take_name-named.ensures.ready in
    let p5 = c.take_bracket.ensures.reads _ p4.ready in
    stands start.requires.stands (λ _. not_alike _ at-sees-word.sees_word.ensures _ at-if1.if-sees_word.true)
    (then p1 (then p2 (then p3 (then p4 (lead p5)))))

pub take_name-named-requires-2 : goal.take_name-named-requires-2
take_name-named-requires-2 c =
    let at-fact-role2 = c in
    let start = at-fact-role2 in
    (start.requires, fact_some start.args.place true at-fact-role2.fact_role-role-2.ensures.0, at-fact-role2.fact_role-role-2.ensures.1)

pub take_bracket-requires-2 : goal.take_bracket-requires-2
take_bracket-requires-2 c =
    let at-take-name2 = c in
    at-take-name2.take_name-named-2.ensures.ready.stands

pub shape_of-said : goal.shape_of-said
shape_of-said c =
    let at-take-name2 = c in
    at-take-name2.take_name-named-2.ensures.size

pub returns : goal.returns
returns c =
    let at-take-name2 = c in
    let at-fact-role2 = at-take-name2 in
    let at-if1 = at-fact-role2 in
    let at-sees-word = at-if1 in
    let start = at-sees-word in
    let p1 = as_fact start.args.place true at-fact-role2.fact_role-role-2.ensures.0 at-take-name2.take_name-named-2.ensures in
    let p2 = c.take_bracket-2.ensures.reads _ at-take-name2.take_name-named-2.ensures.ready in
    stands start.requires.stands (λ _. plain_alike _ at-sees-word.sees_word.ensures _ at-if1.if-sees_word.false) (then p1 (lead p2))
