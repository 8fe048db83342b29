-- The mark stands at byte 2.
use Rattle.job.proofs.layout.serial_mark.Goals as goal

pub returns : goal.returns
returns c = c.u16_at.ensures.0
