use Rattle.spelling.proofs.Scan.{Passed}
use Rattle.spelling.proofs.skip.Given as goal

abbrev pub invariant-loop-at : goal.invariant-loop-at
invariant-loop-at l = Passed l.plan l.text l.from l.line l.at l.on
