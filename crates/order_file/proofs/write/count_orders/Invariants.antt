use Prim.Native.Nat.{◌≤◌}
use mathlib.Core.Path.{◌≡◌}
use Rattle.laws.specs.Nth.{count}
use Rattle.order_file.specs.Held.{entered}
use Rattle.order_file.proofs.write.count_orders.Given as goal

abbrev pub invariant-loop-q : goal.invariant-loop-q
invariant-loop-q l = (l.orders ≤ l.q) × (l.orders ≡ count l.q (entered l.gaps))
