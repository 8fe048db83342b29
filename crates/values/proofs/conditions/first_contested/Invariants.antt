use Prim.Native.Nat.{◌<◌}
use Rattle.job.specs.Clocked.{clocked}
use Rattle.job.specs.Model.{view}
use Rattle.validity.specs.Ticks.{schedule_of}
use Rattle.values.specs.Contested.{contested}
use Rattle.laws.specs.Noted.{Noted}
use Rattle.values.proofs.conditions.first_contested.Given as goal

abbrev pub invariant-loop-fact : goal.invariant-loop-fact
invariant-loop-fact l =
    Noted l.fn.timeline.job.head.count.conditions (contested (clocked (view l.fn.timeline.job.head l.fn.timeline.job.bytes.now)) (schedule_of l.fn.timeline.starts.now))
    (λ c. (view l.fn.timeline.job.head l.fn.timeline.job.bytes.now).condition_fact c < l.fact) l.best
