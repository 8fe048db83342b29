use Rattle.opposing.specs.Against.{OfValue}
use Rattle.opposing.proofs.scan.opposing_from.Given as goal

abbrev pub invariant-loop-p : goal.invariant-loop-p
invariant-loop-p l = OfValue l.points l.from l.p l.value
