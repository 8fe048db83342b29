-- The third note of a line holds the number.
use Rattle.job_notes.specs.Tables.{length_noted}
use Rattle.job_from_notes.proofs.brought.lasts.Goals as goal

pub returns : goal.returns
unfolding length_noted
returns c = c.number.ensures.0
