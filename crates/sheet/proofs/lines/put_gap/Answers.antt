-- The sign and the amount, or the amount alone.
use Rattle.sheet.proofs.Forms.{gap_below, gap_above}
use native.Mathlib.Omega.{arith}
use Rattle.sheet.proofs.lines.put_gap.Goals as goal

pub returns-then-gap-lt-GAP_BIAS : goal.returns-then-gap-lt-GAP_BIAS
returns-then-gap-lt-GAP_BIAS c = (rw (gap_below _ c.if-gap-lt-GAP_BIAS.true) c.put_field.ensures.0, omega arith)

pub returns-else-gap-lt-GAP_BIAS : goal.returns-else-gap-lt-GAP_BIAS
returns-else-gap-lt-GAP_BIAS c = (rw (gap_above _ c.if-gap-lt-GAP_BIAS.false) c.put_decimal.ensures.0, omega arith)
