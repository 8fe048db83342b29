use Rattle.rounds.specs.Rounds.{raised}
use Rattle.order_file.specs.Contents.{gap_bias}
use Rattle.order_file.specs.Table.{gap_in, start_in}
use Rattle.laws.specs.Listed.{Filled}
use Rattle.windows.proofs.starts.Starts.round.Given as goal

abbrev pub invariant-loop-i : goal.invariant-loop-i
invariant-loop-i l = Filled l.n (raised l.i (gap_in l.gaps) gap_bias (start_in l.before)) l.before l.self.at
