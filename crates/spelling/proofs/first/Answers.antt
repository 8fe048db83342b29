use Rattle.spelling.proofs.Scan.{first_token}
use Rattle.spelling.proofs.first.Goals as goal

pub returns : goal.returns
returns c = first_token _ _ _ c.token_from.ensures
