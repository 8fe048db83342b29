use Prim.Native.Nat.{◌≤◌, ◌-◌}
use mathlib.Core.Path.{◌≡◌}
use Rattle.laws.specs.Search.{lowest_owner}
use Rattle.job.specs.Model.{view}
use Rattle.self_check.specs.Keys.{use_key}
use Rattle.timeline.specs.Indexed.{Growing}
use Rattle.against.specs.Against.{used_before}
use Rattle.self_check.proofs.uses_against.Given as goal

abbrev pub invariant-loop-u : goal.invariant-loop-u
invariant-loop-u l =
    Growing (use_key (view l.job.head l.job.bytes.now)) l.u l.index × (l.best ≡ lowest_owner l.job.head.count.steps l.u (view l.job.head l.job.bytes.now).use_step (used_before (view l.job.head l.job.bytes.now)))
