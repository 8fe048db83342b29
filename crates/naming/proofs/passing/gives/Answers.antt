-- The roles that give their name.
use Rattle.naming.proofs.Roles.{gives_number}
use Rattle.naming.proofs.passing.gives.Goals as goal

pub returns : goal.returns
returns c = gives_number _ c.requires
