use Rattle.little_endian.proofs.Bytes.{put_halves}
use Rattle.little_endian.proofs.put_u32_within.Goals as goal

pub returns : goal.returns
returns c =
    let upper = c in
    let lower = upper in
    put_halves _ _ _ lower.put_u16_within.ensures upper.put_u16_within-2.ensures
