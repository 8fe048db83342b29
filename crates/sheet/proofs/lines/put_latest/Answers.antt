-- `none` or the number.
use Rattle.sheet.proofs.Forms.{latest_none, latest_some}
use native.Mathlib.Omega.{arith}
use Rattle.sheet.proofs.lines.put_latest.Goals as goal

pub returns-then-latest : goal.returns-then-latest
returns-then-latest c = (rw (latest_none _ c.if-latest.true) c.put_word.ensures, omega arith)

pub returns-else-latest : goal.returns-else-latest
returns-else-latest c = (rw (latest_some _ c.if-latest.false) c.put_decimal.ensures.0, omega arith)
