use Rattle.little_endian.proofs.Bytes.{biased}
use Rattle.little_endian.proofs.biased_at.Goals as goal

pub returns : goal.returns
returns c = biased _ _ c.u32_at.ensures.0
