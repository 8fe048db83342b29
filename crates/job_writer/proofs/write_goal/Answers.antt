-- Each field is put behind the one before it.
use Rattle.job_writer.proofs.PutRecord.{put_goal}
use Rattle.job_writer.proofs.write_goal.Goals as goal

pub returns : goal.returns
returns c = put_goal _ _ _ c.put_u16_within.ensures c.put_u16_within-2.ensures c.put_u32_within.ensures
