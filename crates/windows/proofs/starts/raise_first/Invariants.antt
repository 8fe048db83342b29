use Prim.Native.Nat.{max}
use Rattle.rounds.specs.Rounds.{demand}
use Rattle.order_file.specs.Contents.{gap_bias}
use Rattle.order_file.specs.Table.{gap_in, start_in}
use Rattle.laws.specs.Listed.{Filled}
use Rattle.windows.proofs.starts.raise_first.Given as goal

abbrev pub invariant-loop-k : goal.invariant-loop-k
invariant-loop-k l =
    Filled l.k (λ j. max (start_in l.initial.at j) (demand (gap_in l.gaps) gap_bias l.i j l.t)) l.initial.at l.at
