use Prim.Native.Nat.{◌+◌}
use Rattle.validity.specs.Ticks.{schedule_of}
use Rattle.order_file.specs.Table.{row_width}
use Rattle.origins.specs.Points.{Reached, Around}
use Rattle.rows.proofs.pairs.raise_around.Given as goal

abbrev pub invariant-loop-word : goal.invariant-loop-word
invariant-loop-word l =
    Reached row_width (Around (schedule_of l.starts) l.points l.low (l.low + l.word-index) l.origin l.from) l.initial.gaps l.gaps
