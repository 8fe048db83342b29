use Rattle.validity.specs.Ticks.{schedule_of}
use Rattle.rows.proofs.Setters.{Setting}
use Rattle.rows.proofs.rows.row_setters.Given as goal

abbrev pub invariant-loop-p : goal.invariant-loop-p
invariant-loop-p l = Setting l.n (schedule_of l.starts) l.points l.low l.high l.initial.gaps l.leads l.p l.gaps
