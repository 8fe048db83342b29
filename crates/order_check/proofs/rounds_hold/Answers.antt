use Rattle.order_check.specs.WellFormed.{rounds_hold}
use borrow.Author.Rules.{rules}
use Rattle.order_check.proofs.rounds_hold.Goals as goal

pub returns : goal.returns
unfolding rounds_hold
returns c = simp (c.rounds.ensures.0, c.steps.ensures.0)
