use Rattle.validity.specs.Ticks.{schedule_of}
use Rattle.origins.specs.Points.{point_origin, Rowing}
use Rattle.rows.proofs.rows.row_points.Given as goal

abbrev pub invariant-loop-p : goal.invariant-loop-p
invariant-loop-p l =
    Rowing l.n (schedule_of l.starts) l.points (point_origin (schedule_of l.starts) l.turn) l.fn.first.low l.fn.first.high l.second.low l.second.high l.initial.gaps
    l.leads l.noted l.p l.gaps
