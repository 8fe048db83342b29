use Rattle.order_check.specs.WellFormed.{length_holds}
use borrow.Author.Rules.{rules}
use Rattle.order_check.proofs.length_holds.Goals as goal

pub returns : goal.returns
unfolding length_holds
returns c =
    let counts = c in
    simp (c.link_at.ensures.0, counts.steps-steps.ensures.0, counts.orders-orders.ensures.0, counts.links-links.ensures.0)
