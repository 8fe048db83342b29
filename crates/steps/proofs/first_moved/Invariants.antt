use mathlib.Core.Path.{◌≡◌}
use Rattle.laws.specs.Search.{lowest}
use Rattle.job.specs.Clocked.{clocked}
use Rattle.job.specs.Model.{view}
use Rattle.validity.specs.Ticks.{schedule_of}
use Rattle.validity.specs.Checks.{moved}
use Rattle.steps.proofs.first_moved.Given as goal

abbrev pub invariant-loop-k : goal.invariant-loop-k
invariant-loop-k l = lowest l.k (moved (clocked (view l.job.head l.job.bytes.now)) (schedule_of l.starts)) ≡ l.k
