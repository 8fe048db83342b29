use Rattle.order_check.specs.WellFormed.{order_holds}
use borrow.Author.Rules.{rules}
use Rattle.order_check.proofs.order_holds.Goals as goal

pub returns : goal.returns
unfolding order_holds
returns c =
    let pair = c in
    let first = pair in
    simp (first.steps-steps.ensures.0, first.first-first.ensures.0, pair.second-second.ensures.0, c.gap-gap.ensures.0)
