-- What item k says is what comes first from it on.
use Rattle.plan_check.proofs.Lines.{leading_at, leading_none}
use Rattle.plan_check.proofs.number_at.Goals as goal

pub returns-then-k-said : goal.returns-then-k-said
returns-then-k-said c text = leading_at c.args.said.now _ text c.if-k-said.true (c.number_of.ensures text)

pub returns-else-k-said : goal.returns-else-k-said
returns-else-k-said c text = leading_none c.args.said.now _ text c.if-k-said.false
