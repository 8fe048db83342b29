-- Each field is put behind the one before it.
use Rattle.job_writer.proofs.PutRecord.{put_step}
use Rattle.job_writer.proofs.write_step.Goals as goal

pub returns : goal.returns
returns c = put_step _ _ _ c.put_u32_within.ensures c.put_u32_within-2.ensures c.put_u16_within.ensures
