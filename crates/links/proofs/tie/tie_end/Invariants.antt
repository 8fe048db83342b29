use Rattle.links.specs.Tied.{OneTick}
use Rattle.links.proofs.tie.tie_end.Given as goal

abbrev pub invariant-loop-end : goal.invariant-loop-end
invariant-loop-end l = OneTick l.points l.from l.end
