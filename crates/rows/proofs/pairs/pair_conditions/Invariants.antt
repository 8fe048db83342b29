use Prim.Native.Nat.{◌+◌}
use Rattle.job.specs.Model.{view}
use Rattle.validity.specs.Ticks.{schedule_of}
use Rattle.order_file.specs.Table.{row_width}
use Rattle.origins.specs.Points.{Reached, Among, AroundCondition}
use Rattle.rows.proofs.pairs.pair_conditions.Given as goal

abbrev pub invariant-loop-word : goal.invariant-loop-word
invariant-loop-word l =
    Reached row_width (Among l.fact.after (l.fact.after + l.word-index) (AroundCondition (view l.job.head l.job.bytes.now) (schedule_of l.starts) l.points l.fact))
    l.initial.gaps l.gaps
