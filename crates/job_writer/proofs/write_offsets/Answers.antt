-- Each number is put behind the one before it.
use mathlib.Core.Path.{refl}
use Rattle.job_writer.proofs.PutHeader.{put_offsets}
use Rattle.job_writer.proofs.write_offsets.Goals as goal

pub returns : goal.returns
returns c =
    put_offsets _ _ refl refl refl refl refl refl c.put_u32.ensures c.put_u32-2.ensures c.put_u32-3.ensures
    c.put_u32-4.ensures
    c.put_u32-5.ensures
    c.put_u32-6.ensures
    c.put_u32-7.ensures
