use Rattle.item_reader.proofs.Likeness.{effect_alike}
use Rattle.token_reader.proofs.Compose.{lead, stands, then}
use Rattle.item_reader.proofs.nested.read_effect.Goals as goal

pub take_word-inner-requires : goal.take_word-inner-requires
take_word-inner-requires c =
    let start = c in
    start.requires.0.stands

pub read_effect_point-requires : goal.read_effect_point-requires
read_effect_point-requires c =
    let at-take-word = c in
    let start = at-take-word in
    let p1 = at-take-word.take_word-inner.ensures.reads _ start.requires.0 in
    p1.ready

pub shape_of-said : goal.shape_of-said
shape_of-said c =
    let at-read-effect-point = c in
    at-read-effect-point.read_effect_point.ensures.size

pub returns : goal.returns
returns c =
    let at-read-effect-point = c in
    let at-take-word = at-read-effect-point in
    let start = at-take-word in
    let p1 = at-take-word.take_word-inner.ensures.reads _ start.requires.0 in
    let p2 = at-read-effect-point.read_effect_point.ensures in
    λ n. stands start.requires.0.stands (λ _. effect_alike _ n start.requires.1) (then p1 (lead p2))
