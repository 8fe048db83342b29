use Prim.Native.Nat.{◌-◌}
use mathlib.Core.Path.{◌≡◌}
use lib.ListN.{length}
use Rattle.job.specs.Layout.{most_effects}
use Rattle.job.specs.Model.{view}
use Rattle.pair_search.proofs.Stepping.{PassedSteps}
use Rattle.pair_search.proofs.search_pairs.Given as goal

abbrev pub invariant-loop-step : goal.invariant-loop-step
invariant-loop-step l = (length l.keys ≡ most_effects) × PassedSteps (view l.job.head l.job.bytes.now) l.compared l.step
