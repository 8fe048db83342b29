use mathlib.Core.Path.{◌∙◌}
use mir.Facts.{to_z-of_z}
use Prim.Native.Nat.{◌-◌}
use borrow.Author.Tests.{lt-ltb, le-ltb}
use native.Mathlib.Omega.{arith}
use Rattle.order_file.specs.Contents.{gap_bias}
use Rattle.order_reader.proofs.signed_gap.Goals as goal

pub overflow_sub-result : goal.overflow_sub-result
overflow_sub-result c =
    let g = c.args.gap in
    record { sfits = simp (lt-ltb g 2147483648 (omega arith), lt-ltb g gap_bias c.if-gap-lt-GAP_BIAS.true) (omega arith) }

pub returns-then-gap-lt-GAP_BIAS : goal.returns-then-gap-lt-GAP_BIAS
returns-then-gap-lt-GAP_BIAS c =
    let g = c.args.gap in
    to_z-of_z (overflow_sub-result c) ∙ simp (lt-ltb g 2147483648 (omega arith))

pub returns-else-gap-lt-GAP_BIAS : goal.returns-else-gap-lt-GAP_BIAS
returns-else-gap-lt-GAP_BIAS c =
    let g = c.args.gap in
    simp (lt-ltb (g - gap_bias) 2147483648 (omega arith), le-ltb g gap_bias c.if-gap-lt-GAP_BIAS.false)
