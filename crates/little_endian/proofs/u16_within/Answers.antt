use Rattle.little_endian.specs.Bytes.{u16_at}
use native.Mathlib.Omega.{arith}
use Rattle.little_endian.proofs.u16_within.Goals as goal

pub returns : goal.returns
unfolding u16_at
returns c = (omega (arith, c.from.ensures, c.from-2.ensures), omega (arith, c.from.ensures, c.from-2.ensures))
