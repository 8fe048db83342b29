use Prim.Native.Nat.{◌≤◌, ◌-◌}
use mathlib.Core.Path.{◌≡◌}
use Rattle.laws.specs.Search.{lowest}
use Rattle.job.specs.Model.{view}
use Rattle.against.specs.Clock.{timed_both_ways}
use Rattle.self_check.proofs.clock.conflicts.Given as goal

abbrev pub invariant-loop-k : goal.invariant-loop-k
invariant-loop-k l = (lowest l.k (timed_both_ways (view l.job.head l.job.bytes.now) l.j) ≡ l.k)
