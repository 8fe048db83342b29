use Rattle.spelling.proofs.Scan.{Run}
use Rattle.spelling.proofs.run_end.Given as goal

abbrev pub invariant-loop-end : goal.invariant-loop-end
invariant-loop-end l = Run l.plan l.text l.from l.end
