use Rattle.order_file.specs.Layout.{contents_of}
use Rattle.sheet.specs.Text.{order_line, order_most}
use Rattle.sheet.proofs.LineByLine.{LinesPut}
use Rattle.sheet.proofs.put_orders.Given as goal

abbrev pub invariant-loop-k : goal.invariant-loop-k
invariant-loop-k l = LinesPut (order_line (contents_of l.file)) order_most l.orders l.initial.out l.at l.k l.out l.next
