-- Past the blanks, then the token there.
use Rattle.spelling.proofs.Scan.{moved}
use Rattle.spelling.proofs.token_from.Goals as goal

pub token_at-requires : goal.token_at-requires
token_at-requires c = let k = c.skip-spot.ensures in record { at_in_bounds = (k.within, k.lines); not_blank = k.full }

pub returns : goal.returns
returns c = moved _ _ _ _ _ _ c.skip-spot.ensures c.token_at.ensures
