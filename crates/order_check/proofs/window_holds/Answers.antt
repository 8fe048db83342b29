use Rattle.order_check.specs.WellFormed.{window_holds}
use borrow.Author.Rules.{rules}
use Rattle.order_check.proofs.window_holds.Goals as goal

pub returns : goal.returns
unfolding window_holds
returns c = simp (c.earliest-earliest.ensures.0, c.limit.ensures.0, c.latest.ensures.0)
