use mathlib.Core.Path.{◌≡◌}
use lib.ListN.{length, take}
use Rattle.laws.specs.Listed.{tabulate}
use Rattle.job.specs.Model.{view}
use Rattle.ticks.proofs.planned_starts.Given as goal

abbrev pub invariant-loop-k : goal.invariant-loop-k
invariant-loop-k l = (length l.starts ≡ 64) × (take l.k l.starts ≡ tabulate l.k (view l.job.head l.job.bytes.now).start)
