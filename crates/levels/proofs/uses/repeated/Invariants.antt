use Rattle.levels.proofs.UsesApart.{Others}
use Rattle.levels.proofs.uses.repeated.Given as goal

abbrev pub invariant-loop-p : goal.invariant-loop-p
invariant-loop-p l = Others l.points l.low l.q l.tick l.step l.p
