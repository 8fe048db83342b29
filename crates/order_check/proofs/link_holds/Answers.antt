use Rattle.order_check.specs.WellFormed.{link_holds}
use borrow.Author.Rules.{rules}
use Rattle.order_check.proofs.link_holds.Goals as goal

pub returns : goal.returns
unfolding link_holds
returns c = simp c.link-link.ensures.0
