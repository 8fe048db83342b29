use mathlib.Core.Path.{◌≡◌}
use Rattle.laws.specs.Search.{lowest}
use Rattle.job.specs.Clocked.{clocked}
use Rattle.job.specs.Model.{view}
use Rattle.validity.specs.Ticks.{schedule_of}
use Rattle.validity.specs.Checks.{conflicts}
use Rattle.values.proofs.effects.lowest_conflict.Given as goal

abbrev pub invariant-loop-e : goal.invariant-loop-e
invariant-loop-e l = lowest l.e (conflicts (clocked (view l.fn.timeline.job.head l.fn.timeline.job.bytes.now)) (schedule_of l.fn.timeline.starts.now)) ≡ l.e
