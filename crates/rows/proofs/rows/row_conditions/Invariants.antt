use Rattle.job.specs.Model.{view}
use Rattle.validity.specs.Ticks.{schedule_of}
use Rattle.origins.specs.Points.{last_origin, Rowing}
use Rattle.rows.proofs.rows.row_conditions.Given as goal

abbrev pub invariant-loop-p : goal.invariant-loop-p
invariant-loop-p l =
    Rowing l.job.head.count.steps (schedule_of l.starts) l.points (last_origin (view l.job.head l.job.bytes.now)) l.fact.after l.fact.until l.fact.low l.fact.high l.initial.gaps l.leads
    l.noted l.p l.gaps
