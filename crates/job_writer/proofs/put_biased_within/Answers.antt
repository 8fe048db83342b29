-- Whole multiples of what four bytes hold are left out before the bias is added.
use Rattle.job_writer.proofs.PutRecord.{put_biased}
use Rattle.job_writer.proofs.put_biased_within.Goals as goal

pub returns : goal.returns
returns c = put_biased _ _ _ c.put_u32_within.ensures
