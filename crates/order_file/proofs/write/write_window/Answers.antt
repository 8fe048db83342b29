-- Each number is put behind the one before it.
use Prim.Native.Nat.{◌+◌}
use mathlib.Core.Path.{refl}
use native.Mathlib.Omega.{arith}
use borrow.Author.Rules.{rules}
use Rattle.little_endian.specs.Bytes.{u16_bytes, u32_bytes}
use Rattle.order_file.proofs.Put.{put_three}
use Rattle.order_file.proofs.write.write_window.Goals as goal

pub put_u32_within-requires : goal.put_u32_within-requires
unfolding u32_bytes u16_bytes
put_u32_within-requires c = search rules

pub overflow_add-at : goal.overflow_add-at
unfolding u32_bytes u16_bytes
overflow_add-at c = search rules

pub put_u32_within-requires-2 : goal.put_u32_within-requires-2
unfolding u32_bytes u16_bytes
put_u32_within-requires-2 c = search rules

pub overflow_add-at-2 : goal.overflow_add-at-2
unfolding u32_bytes u16_bytes
overflow_add-at-2 c = search rules

pub put_u32_within-requires-3 : goal.put_u32_within-requires-3
unfolding u32_bytes u16_bytes
put_u32_within-requires-3 c = search rules

pub shape_of-out : goal.shape_of-out
unfolding u32_bytes u16_bytes
shape_of-out c = search rules

pub returns : goal.returns
unfolding u32_bytes u16_bytes
returns c =
    let a = c.args in
    cc
    (put_three a.out.now (u32_bytes a.limit) (u32_bytes a.latest) (u32_bytes a.earliest) a.at (a.at + 4) (a.at + 8)
    refl
    (omega arith))
