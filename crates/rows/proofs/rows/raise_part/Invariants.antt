use Rattle.origins.specs.Points.{due_at, Rowed}
use Rattle.rows.proofs.rows.raise_part.Given as goal

abbrev pub invariant-loop-k : goal.invariant-loop-k
invariant-loop-k l = Rowed l.row (due_at l.ahead l.at l.leads) l.initial.gaps l.gaps l.k
