use Rattle.token_reader.proofs.Compose.{lead, then}
use mathlib.Core.Path.{◌∙◌}
use Rattle.item_reader.proofs.literals.read_level.Goals as goal

pub take_bracket-opened-requires : goal.take_bracket-opened-requires
take_bracket-opened-requires c =
    let start = c in
    start.requires.0.stands

pub take_name-named-requires : goal.take_name-named-requires
take_name-named-requires c =
    let at-take-bracket = c in
    let start = at-take-bracket in
    let p1 = at-take-bracket.take_bracket-opened.ensures.reads _ start.requires.0 in
    (p1.ready, start.requires.1, start.requires.2)

pub take_bracket-closed-requires : goal.take_bracket-closed-requires
take_bracket-closed-requires c =
    let at-take-name = c in
    at-take-name.take_name-named.ensures.ready.stands

pub take_amount-counted-requires : goal.take_amount-counted-requires
take_amount-counted-requires c =
    let at-take-bracket2 = c in
    let at-take-name = at-take-bracket2 in
    let p3 = at-take-bracket2.take_bracket-closed.ensures.reads _ at-take-name.take_name-named.ensures.ready in
    p3.ready

pub take_bracket-requires : goal.take_bracket-requires
take_bracket-requires c =
    let at-take-amount = c in
    at-take-amount.take_amount-counted.ensures.ready.stands

pub shape_of-said : goal.shape_of-said
shape_of-said c =
    let at-take-amount = c in
    let at-take-name = at-take-amount in
    at-take-amount.take_amount-counted.ensures.size ∙ at-take-name.take_name-named.ensures.size

pub returns : goal.returns
returns c =
    let at-take-amount = c in
    let at-take-bracket2 = at-take-amount in
    let at-take-name = at-take-bracket2 in
    let at-take-bracket = at-take-name in
    let start = at-take-bracket in
    let p1 = at-take-bracket.take_bracket-opened.ensures.reads _ start.requires.0 in
    let p2 = at-take-name.take_name-named.ensures in
    let p3 = at-take-bracket2.take_bracket-closed.ensures.reads _ at-take-name.take_name-named.ensures.ready in
    let p4 = at-take-amount.take_amount-counted.ensures in
    let p5 = c.take_bracket.ensures.reads _ at-take-amount.take_amount-counted.ensures.ready in
    (then p1 (then p2 (then p3 (then p4 (lead p5)))))
