-- The paper's gap is the i32 that stands in the file.
use Prim.Native.Nat.{ℕ, ◌≤◌, ◌<◌}
use mathlib.Core.Path.{◌≡◌, ap}
use mathlib.Core.List.{List}
use native.Mathlib.Decide.{dec_lt}
use native.Mathlib.Omega.{arith}
use borrow.Author.Tests.{lt-ltb, le-ltb}
use lib.IntN.{pos, negsuc}
use mir.Syntax.{w32}
use mir.Val.{to_z}
use Rattle.little_endian.specs.Bytes.{u32_at, biased_at}
use Rattle.order_file.specs.Layout.{gap_read}
use Rattle.order_file.specs.Contents.{gap_bias, signed_gap}

-- of every gap that an order may have, and of all others above -`gap_bias`
pub signed_gap_is_i32 :
    (b : List ℕ) (at : ℕ) → u32_at b at < 4294967296 → 1 ≤ gap_read (biased_at b at)
    → signed_gap (gap_read (biased_at b at)) ≡ to_z w32 (u32_at b at)
unfolding biased_at
signed_gap_is_i32 b at h l =
    let n = u32_at b at in
    let g = gap_read (biased_at b at) in
    elim (dec_lt n 2147483648) [
      | yes y ↦ simp (lt-ltb n 2147483648 y, le-ltb g gap_bias (omega arith)) (ap pos (omega arith))
      | no y ↦ simp (le-ltb n 2147483648 (omega arith), lt-ltb g gap_bias (omega arith)) (ap negsuc (omega arith))
    ]
