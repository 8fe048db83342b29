use Prim.Native.Nat.{◌≤◌, ◌-◌}
use mathlib.Core.Path.{◌≡◌}
use Rattle.laws.specs.Search.{lowest}
use Rattle.job.specs.Model.{view}
use Rattle.against.specs.Clock.{timed_conflicts}
use Rattle.self_check.proofs.clock.check_clock.Given as goal

abbrev pub invariant-loop-j : goal.invariant-loop-j
invariant-loop-j l = (lowest l.j (timed_conflicts (view l.job.head l.job.bytes.now)) ≡ l.j)
