use Rattle.windows.specs.Loops.{Given}
use Rattle.order_file.specs.Contents.{gap_bias}
use Rattle.order_file.specs.Table.{gap_in, start_in}
use Rattle.windows.proofs.Loops.{Reached}
use Rattle.windows.proofs.starts.earliest_starts.Given as goal

abbrev pub invariant-loop-rounds : goal.invariant-loop-rounds
invariant-loop-rounds l =
    Reached l.n (gap_in l.gaps) gap_bias l.limits l.rounds l.starts.at
    × Given l.n (gap_in l.gaps) gap_bias (start_in l.last) (start_in l.starts.at)
