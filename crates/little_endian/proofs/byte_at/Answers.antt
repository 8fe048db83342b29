use mathlib.Core.Path.{sym}
use Rattle.little_endian.proofs.Bytes.{byte_out}
use native.Mathlib.Omega.{arith}
use Rattle.little_endian.proofs.byte_at.Goals as goal

pub returns-else-at-s : goal.returns-else-at-s
returns-else-at-s c = let a = c.args in (sym (byte_out a.s.now a.at c.if-at-s.false), omega arith)
