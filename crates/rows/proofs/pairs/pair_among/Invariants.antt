use Prim.Native.Nat.{ℕ, ◌≤◌}
use Rattle.validity.specs.Ticks.{schedule_of}
use Rattle.order_file.specs.Contents.{step_limit}
use Rattle.origins.specs.Points.{Group, Reached, Among, PointOrder}
use Rattle.rows.proofs.pairs.pair_among.Given as goal

abbrev pub invariant-loop-p : goal.invariant-loop-p
invariant-loop-p l =
    (n : ℕ) → n ≤ step_limit
    → Group n l.starts l.points l.low l.high
    → Reached n (Among l.low l.p (PointOrder (schedule_of l.starts) l.points l.low l.high l.turn)) l.initial.gaps l.gaps
