-- The line of a job that was made, or of a refusal.
use Rattle.telling.specs.Told.{told}
use Rattle.telling.proofs.tell.Goals as goal

pub returns-in-Ok : goal.returns-in-Ok
unfolding told
returns-in-Ok c = rw c.in-Ok.is (record { written = c.write_made.ensures.0; upper_bound = c.write_made.ensures.1 })

pub returns-in-Err : goal.returns-in-Err
unfolding told
returns-in-Err c = rw c.in-Err.is (record { written = c.write_refused.ensures.0; upper_bound = c.write_refused.ensures.1 })
