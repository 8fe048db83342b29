use Rattle.order_answers.specs.Answers.{record_count}
use Rattle.order_reader.proofs.record_count.Goals as goal

pub returns-in-Windows : goal.returns-in-Windows
unfolding record_count
returns-in-Windows c = rw c.in-Windows.is c.steps.ensures

pub returns-in-Orders : goal.returns-in-Orders
unfolding record_count
returns-in-Orders c = rw c.in-Orders.is c.orders.ensures

pub returns-in-Links : goal.returns-in-Links
unfolding record_count
returns-in-Links c = rw c.in-Links.is c.links.ensures
