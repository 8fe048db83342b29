use Prim.Native.Nat.{ℕ, ◌<◌}
use mathlib.Core.Path.{◌≡◌}
use mathlib.Core.Bool.{true}
use Rattle.order_file.specs.Layout.{contents_of}
use Rattle.order_answers.specs.Alike.{same_order}
use Rattle.order_reader.proofs.compare.same_orders.Given as goal

abbrev pub invariant-loop-k : goal.invariant-loop-k
invariant-loop-k l = (j : ℕ) → j < l.k → same_order (contents_of l.a) (contents_of l.b) j ≡ true
