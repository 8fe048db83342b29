-- Each number is put behind the one before it.
use Rattle.job_writer.proofs.PutHeader.{put_header}
use Rattle.job_writer.proofs.write_header.Goals as goal

pub returns : goal.returns
returns c = put_header _ _ c.put_u16.ensures c.put_u16-2.ensures c.write_counts.ensures c.write_offsets.ensures
