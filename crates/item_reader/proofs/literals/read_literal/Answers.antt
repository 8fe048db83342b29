use Rattle.item_reader.proofs.Likeness.{literal_alike}
use Rattle.token_reader.proofs.Compose.{lead, stands, then}
use Rattle.item_reader.proofs.literals.read_literal.Goals as goal

pub take_bracket-opened-requires : goal.take_bracket-opened-requires
take_bracket-opened-requires c =
    let start = c in
    start.requires.stands

pub read_fact-requires : goal.read_fact-requires
read_fact-requires c =
    let at-take-bracket = c in
    let start = at-take-bracket in
    let p1 = at-take-bracket.take_bracket-opened.ensures.reads _ start.requires in
    p1.ready

pub shape_of-said : goal.shape_of-said
shape_of-said c =
    let at-read-fact = c in
    at-read-fact.read_fact.ensures.size

pub returns : goal.returns
returns c =
    let at-read-fact = c in
    let at-take-bracket = at-read-fact in
    let start = at-take-bracket in
    let p1 = at-take-bracket.take_bracket-opened.ensures.reads _ start.requires in
    let p2 = at-read-fact.read_fact.ensures in
    stands start.requires.stands (λ _. literal_alike _ _) (then p1 (lead p2))
