use Rattle.levels.specs.UsesApart.{StepsApart}
use Rattle.levels.proofs.uses.twice.Given as goal

abbrev pub invariant-loop-q : goal.invariant-loop-q
invariant-loop-q l = StepsApart l.points l.low l.q
