use mathlib.Core.Path.{◌≡◌}
use Rattle.laws.specs.Search.{lowest}
use Rattle.job.specs.Model.{view}
use Rattle.ranges.specs.Ranges.{record_broken}
use Rattle.ranges.proofs.first_broken.Given as goal

abbrev pub invariant-loop-k : goal.invariant-loop-k
invariant-loop-k l = lowest l.k (record_broken (view l.job.head l.job.bytes.now) l.table) ≡ l.k
