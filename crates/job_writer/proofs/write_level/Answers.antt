-- Each field is put behind the one before it.
use Rattle.job_writer.proofs.PutRecord.{put_level}
use Rattle.job_writer.proofs.write_level.Goals as goal

pub returns : goal.returns
returns c = put_level _ _ _ c.put_biased_within.ensures c.put_biased_within-2.ensures c.put_biased_within-3.ensures
