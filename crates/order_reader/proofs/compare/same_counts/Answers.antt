use Rattle.order_answers.specs.Alike.{same_counts}
use Rattle.order_reader.proofs.compare.same_counts.Goals as goal

pub returns : goal.returns
unfolding same_counts
returns c = simp (c.steps.ensures.0, c.steps-2.ensures.0, c.orders.ensures.0, c.orders-2.ensures.0)
