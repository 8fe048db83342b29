-- The first note of a line holds the number.
use Rattle.job_notes.specs.Tables.{start_noted}
use Rattle.job_from_notes.proofs.file.starts.Goals as goal

pub returns : goal.returns
unfolding start_noted
returns c = c.number.ensures.0
