use Prim.Native.Nat.{◌≤◌, ◌-◌}
use mathlib.Core.Path.{◌≡◌}
use Rattle.laws.specs.Search.{lowest_owner}
use Rattle.job.specs.Model.{view}
use Rattle.against.specs.Against.{opposes_any}
use Rattle.self_check.proofs.effects_against.Given as goal

abbrev pub invariant-loop-k : goal.invariant-loop-k
invariant-loop-k l =
    (l.best ≡ lowest_owner l.job.head.count.steps l.k (view l.job.head l.job.bytes.now).effect_step (opposes_any (view l.job.head l.job.bytes.now)))
