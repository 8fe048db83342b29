use Prim.Native.Nat.{◌-◌}
use lib.ListN.{length}
use Rattle.start_list.proofs.Counting.{Counted}
use Rattle.start_list.proofs.count_starts.Given as goal

abbrev pub invariant-loop-n : goal.invariant-loop-n
invariant-loop-n l = Counted l.text l.at l.n

abbrev pub decreases-loop-n : goal.decreases-loop-n
decreases-loop-n l = length l.text - l.at
