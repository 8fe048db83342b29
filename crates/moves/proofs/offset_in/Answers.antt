-- What the code reads of the point is what it holds.
use Rattle.moves.proofs.offset_in.Goals as goal

pub returns : goal.returns
returns c = rw (c.tick_of.ensures.0, c.start_of.ensures.0, c.step_of.ensures.0)
