use Rattle.spelling.proofs.Standing.{stop_is}
use Rattle.spelling.proofs.here.at_end.Goals as goal

pub returns : goal.returns
returns c = stop_is _ _ _ c.requires
