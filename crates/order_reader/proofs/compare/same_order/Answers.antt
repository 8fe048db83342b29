use Rattle.order_answers.specs.Alike.{same_order}
use Rattle.order_reader.proofs.compare.same_order.Goals as goal

pub returns : goal.returns
unfolding same_order
returns c =
    simp (
      c.first.ensures.0,
      c.first-2.ensures.0,
      c.second.ensures.0,
      c.second-2.ensures.0,
      c.gap.ensures.0,
      c.gap-2.ensures.0,
    )
