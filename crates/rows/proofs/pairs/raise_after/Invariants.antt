use Prim.Native.Nat.{◌+◌}
use Rattle.origins.specs.Points.{Ordering}
use Rattle.rows.proofs.pairs.raise_after.Given as goal

abbrev pub invariant-loop-word : goal.invariant-loop-word
invariant-loop-word l = Ordering l.starts l.points l.low l.high l.origin l.initial.gaps (l.low + l.word-index) l.gaps
