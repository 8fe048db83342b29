use Rattle.order_answers.specs.Alike.{alike_contents}
use Rattle.order_reader.proofs.compare.same_contents.Goals as goal

pub returns : goal.returns
unfolding alike_contents
returns c = simp (c.same_counts.ensures, c.same_windows.ensures, c.same_orders.ensures)
