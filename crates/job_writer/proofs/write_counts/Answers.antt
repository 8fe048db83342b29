-- Each number is put behind the one before it.
use Rattle.job_writer.proofs.PutHeader.{put_counts}
use Rattle.job_writer.proofs.write_counts.Goals as goal

pub returns : goal.returns
returns c =
    put_counts _ _ c.put_count.ensures c.put_count-2.ensures c.put_count-3.ensures c.put_count-4.ensures
    c.put_count-5.ensures
    c.put_count-6.ensures
    c.put_count-7.ensures
    c.put_count-8.ensures
