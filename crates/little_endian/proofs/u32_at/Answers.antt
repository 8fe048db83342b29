use Prim.Native.Nat.{◌+◌, ◌≤◌, ◌<◌}
use mathlib.Core.Path.{◌∙◌}
use lib.ListN.{length}
use Rattle.little_endian.proofs.Bytes.{room, no_room, u32_cut, u32_low}
use borrow.Author.Rules.{rules}
use native.Mathlib.Omega.{arith}
use Rattle.little_endian.proofs.u32_at.Goals as goal

pub u32_within-requires : goal.u32_within-requires
u32_within-requires c = room _ _ c.has_room.ensures c.if-has_room.true

pub u16_within-requires : goal.u16_within-requires
u16_within-requires c = room _ _ c.has_room-2.ensures c.if-has_room-2.true

pub overflow_add-at : goal.overflow_add-at
overflow_add-at c =
    let a = c.args in
    let h : a.at + 2 ≤ length a.s.now = room _ _ c.has_room-2.ensures c.if-has_room-2.true in
    search rules

pub returns-then-has_room-2 : goal.returns-then-has_room-2
returns-then-has_room-2 c =
    let first = c in
    let a = first.args in
    let cut : length a.s.now < a.at + 4 = no_room _ _ first.has_room.ensures first.if-has_room.false in
    (omega (arith, c.u16_within.ensures.0, u32_cut a.s.now a.at cut), omega (arith, c.u16_within.ensures.1))

pub returns : goal.returns
returns c =
    let cut = no_room _ _ c.has_room-2.ensures c.if-has_room-2.false in
    (c.byte_at-2.ensures.0 ∙ u32_low _ _ cut, omega arith)
