use native.Mathlib.Omega.{arith}
use Rattle.token_reader.proofs.Noting.{noting_room, noted}
use Rattle.token_reader.proofs.note.Goals as goal

pub advance-a-requires : goal.advance-a-requires
advance-a-requires c =
    let start = c in
    (start.requires.0.stands, start.requires.1)

pub offset_bounds-said-count : goal.offset_bounds-said-count
offset_bounds-said-count c =
    let start = c in
    let s = start.requires.0.stands in omega (arith, s.few, s.short, s.standing.onward, s.standing.within)

pub bounds-said-count : goal.bounds-said-count
bounds-said-count c =
    let start = c in
    noting_room _ _ _ _ start.requires.0

pub overflow_add-result : goal.overflow_add-result
overflow_add-result c =
    let start = c in
    let s = start.requires.0.stands in omega (arith, s.few, s.short, s.standing.onward, s.standing.within)

pub returns : goal.returns
returns c =
    let start = c in
    noted _ _ _ _ start.requires.0 _ start.requires.2 start.requires.3 c.advance-a.ensures
