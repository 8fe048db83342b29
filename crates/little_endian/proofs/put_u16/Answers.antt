use mathlib.Core.Path.{◌∙◌}
use Rattle.little_endian.proofs.Bytes.{room, no_room, sets_cut}
use Rattle.little_endian.proofs.put_u16.Goals as goal

pub put_u16_within-requires : goal.put_u16_within-requires
put_u16_within-requires c = room _ _ c.has_room.ensures c.if-has_room.true

pub returns : goal.returns
returns c =
    let put = c in
    let cut = no_room _ _ put.has_room.ensures put.if-has_room.false in
    put.put_byte.ensures ∙ sets_cut _ _ _ cut
