use Prim.Native.Nat.{ℕ}
use Rattle.origins.specs.Points.{Noting}
use Rattle.rows.proofs.rows.note_from.Given as goal

abbrev pub invariant-loop-p : goal.invariant-loop-p
invariant-loop-p l =
    (high : ℕ) → Noting l.starts l.points l.low high l.noted l.t l.initial.leads → Noting l.starts l.points l.low high l.p l.t l.leads
