use mathlib.Core.Path.{◌≡◌}
use lib.Seq.{sets}
use Rattle.laws.specs.Listed.{concatenate}
use Rattle.order_file.specs.Layout.{windows_at}
use Rattle.order_file.specs.Held.{window_in}
use Rattle.order_file.proofs.write.write_windows.Given as goal

abbrev pub invariant-loop-k : goal.invariant-loop-k
invariant-loop-k l = l.out ≡ sets l.initial.out windows_at (concatenate l.k (window_in l.limits l.latest l.earliest))
