use mathlib.Core.Path.{◌∙◌}
use Rattle.little_endian.proofs.Bytes.{room, no_room, u16_cut}
use native.Mathlib.Omega.{arith}
use Rattle.little_endian.proofs.u16_at.Goals as goal

pub u16_within-requires : goal.u16_within-requires
u16_within-requires c = room _ _ c.has_room.ensures c.if-has_room.true

pub returns : goal.returns
returns c =
    let cut = no_room _ _ c.has_room.ensures c.if-has_room.false in
    (c.byte_at.ensures.0 ∙ u16_cut _ _ cut, omega arith)
