-- The conditions first, then the goals.
use Rattle.links.proofs.Linking.{links_found}
use Rattle.links.proofs.support.find_links.Goals as goal

pub returns : goal.returns
returns c = links_found c.link_conditions.ensures c.link_goals.ensures
