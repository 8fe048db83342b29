use mathlib.Core.Path.{sym}
use Rattle.little_endian.specs.Bytes.{u32_bytes}
use Rattle.little_endian.proofs.Sets.{sets_out}
use Rattle.little_endian.proofs.Bytes.{room, put_halves}
use Rattle.little_endian.proofs.put_u32.Goals as goal

pub put_u32_within-requires : goal.put_u32_within-requires
put_u32_within-requires c = room _ _ c.has_room.ensures c.if-has_room.true

pub returns-then-at-s : goal.returns-then-at-s
returns-then-at-s c = put_halves _ _ _ c.put_u16.ensures c.put_u16-then-at-s.ensures

pub returns-else-at-s : goal.returns-else-at-s
returns-else-at-s c = let a = c.args in sym (sets_out a.s.now a.at (u32_bytes a.n) c.if-at-s.false)
