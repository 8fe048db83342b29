use Rattle.job.specs.Model.{view}
use Rattle.order_file.specs.Table.{start_in}
use Rattle.laws.specs.Listed.{Filled}
use Rattle.windows.specs.Loops.{fixed_start}
use Rattle.windows.proofs.window.fix_starts.Given as goal

abbrev pub invariant-loop-k : goal.invariant-loop-k
invariant-loop-k l = Filled l.k (λ i. fixed_start (view l.job.head l.job.bytes.now) (start_in l.initial.at i) i) l.initial.at l.at
