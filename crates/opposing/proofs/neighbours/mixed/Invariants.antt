use lib.ListN.{get_or}
use Rattle.opposing.specs.Against.{Unmixed}
use Rattle.opposing.proofs.neighbours.mixed.Given as goal

abbrev pub invariant-loop-p : goal.invariant-loop-p
invariant-loop-p l = Unmixed l.points (get_or l.begins l.fact 0) l.p
