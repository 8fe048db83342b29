-- The larger of two.
use Rattle.origins.proofs.Raised.{raised_put}
use Rattle.origins.proofs.raise.Goals as goal

pub returns : goal.returns
returns c = raised_put _ _ _ _ _ c.requires.1 c.requires.2 c.higher.ensures c.requires.3 c.requires.0.size
