use Rattle.order_check.specs.WellFormed.{counts_hold}
use borrow.Author.Rules.{rules}
use Rattle.order_check.proofs.counts_hold.Goals as goal

pub returns : goal.returns
unfolding counts_hold
returns c = simp (c.steps.ensures.0, c.orders.ensures.0, c.links.ensures.0)
