use Rattle.item_reader.proofs.Likeness.{change_alike}
use Rattle.token_reader.proofs.Compose.{lead, stands, then}
use Rattle.item_reader.proofs.literals.read_change.Goals as goal

pub take_bracket-opened-requires : goal.take_bracket-opened-requires
take_bracket-opened-requires c =
    let start = c in
    start.requires.stands

pub read_change_body-requires : goal.read_change_body-requires
read_change_body-requires c =
    let at-take-bracket = c in
    let start = at-take-bracket in
    let p1 = at-take-bracket.take_bracket-opened.ensures.reads _ start.requires in
    p1.ready

pub shape_of-said : goal.shape_of-said
shape_of-said c =
    let at-read-change-body = c in
    at-read-change-body.read_change_body.ensures.size

pub returns : goal.returns
returns c =
    let at-read-change-body = c in
    let at-take-bracket = at-read-change-body in
    let start = at-take-bracket in
    let p1 = at-take-bracket.take_bracket-opened.ensures.reads _ start.requires in
    let p2 = at-read-change-body.read_change_body.ensures in
    stands start.requires.stands (λ _. change_alike _ _) (then p1 (lead p2))
