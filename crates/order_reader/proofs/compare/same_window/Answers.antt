use Rattle.order_answers.specs.Alike.{same_window}
use Rattle.order_reader.proofs.compare.same_window.Goals as goal

pub returns : goal.returns
unfolding same_window
returns c = simp (c.limit.ensures.0, c.limit-2.ensures.0, c.latest.ensures.0, c.latest-2.ensures.0)
