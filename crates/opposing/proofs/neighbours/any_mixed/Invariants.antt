use Rattle.opposing.specs.Against.{FactsUnmixed}
use Rattle.opposing.proofs.neighbours.any_mixed.Given as goal

abbrev pub invariant-loop-fact : goal.invariant-loop-fact
invariant-loop-fact l = FactsUnmixed l.fact l.points l.begins
