use Prim.Native.Nat.{◌*◌}
use Rattle.order_file.specs.Table.{row_width}
use Rattle.order_file.specs.Held.{OrdersPut}
use Rattle.order_file.proofs.write.write_orders.Given as goal

abbrev pub invariant-loop-i : goal.invariant-loop-i
invariant-loop-i l = OrdersPut l.gaps l.initial.out l.from (row_width * l.i) l.at l.out
