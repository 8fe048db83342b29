use Prim.Native.Nat.{◌-◌}
use Rattle.pair_search.proofs.Comparing.{PassedPairs}
use Rattle.pair_search.proofs.compare.through_pairs.Given as goal

abbrev pub invariant-loop-p : goal.invariant-loop-p
invariant-loop-p l = PassedPairs l.keys l.p l.compared
