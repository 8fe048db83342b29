use Prim.Native.Nat.{◌≤◌, ◌-◌}
use Rattle.job.specs.Model.{view}
use Rattle.self_check.specs.Keys.{condition_key}
use Rattle.timeline.specs.Indexed.{Growing}
use Rattle.self_check.proofs.link_conditions.Given as goal

abbrev pub invariant-loop-c : goal.invariant-loop-c
invariant-loop-c l = Growing (condition_key (view l.job.head l.job.bytes.now)) l.c l.index
