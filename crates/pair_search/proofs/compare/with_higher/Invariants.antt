use Prim.Native.Nat.{◌-◌}
use mathlib.Core.Path.{◌≡◌}
use lib.ListN.{get_or}
use Rattle.pair_search.specs.Keys.{opposite}
use Rattle.pair_search.proofs.Comparing.{Passed}
use Rattle.pair_search.proofs.compare.with_higher.Given as goal

abbrev pub invariant-loop-q : goal.invariant-loop-q
invariant-loop-q l = (l.other ≡ opposite (get_or l.keys l.p 0)) × Passed l.keys l.p l.q
