use Rattle.levels.specs.UsesApart.{LevelsApart}
use Rattle.levels.proofs.uses.any_twice.Given as goal

abbrev pub invariant-loop-l : goal.invariant-loop-l
invariant-loop-l l = LevelsApart l.facts l.l l.points l.begins
