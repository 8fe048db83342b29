use Rattle.order_check.specs.WellFormed.{ascends}
use borrow.Author.Rules.{rules}
use Rattle.order_check.proofs.ascends_at.Goals as goal

pub returns : goal.returns
unfolding ascends
returns c =
    let firsts = c in
    simp (firsts.first-first.ensures.0, firsts.first-next.ensures.0, c.second-second.ensures.0, c.second-next_second.ensures.0)
