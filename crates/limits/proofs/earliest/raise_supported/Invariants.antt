use Rattle.job.specs.Model.{view}
use Rattle.moves.specs.Moved.{Up, Moved, Among}
use Rattle.limits.specs.Beside.{LimitByLink}
use Rattle.limits.proofs.earliest.raise_supported.Given as goal

abbrev pub invariant-loop-c : goal.invariant-loop-c
invariant-loop-c l = Moved Up (Among 0 l.c (LimitByLink (view l.job.head l.job.bytes.now) l.links)) l.initial.limits l.limits
