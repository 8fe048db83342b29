use Prim.Native.Nat.{ℕ, ◌<◌}
use mathlib.Core.Path.{◌≡◌}
use mathlib.Core.Bool.{true}
use Rattle.order_file.specs.Layout.{contents_of}
use Rattle.order_check.specs.WellFormed.{window_holds}
use Rattle.order_check.proofs.windows_hold.Given as goal

abbrev pub invariant-loop-k : goal.invariant-loop-k
invariant-loop-k l = (j : ℕ) → j < l.k → window_holds (contents_of l.file) j ≡ true
