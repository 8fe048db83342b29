use Prim.Native.Nat.{ℕ, ◌<◌}
use mathlib.Core.Path.{◌≡◌}
use mathlib.Core.Bool.{true}
use Rattle.order_file.specs.Layout.{contents_of}
use Rattle.order_check.specs.WellFormed.{order_holds}
use Rattle.order_check.proofs.orders_hold.Given as goal

abbrev pub invariant-loop-k : goal.invariant-loop-k
invariant-loop-k l = (j : ℕ) → j < l.k → order_holds (contents_of l.file) j ≡ true
