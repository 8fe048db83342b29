use Rattle.job_from_notes.specs.Opening.{Stated}
use Rattle.job_from_notes.proofs.opening.find_stated.Given as goal

abbrev pub invariant-loop-k : goal.invariant-loop-k
invariant-loop-k l = Stated l.of l.noted.said.now l.noted.numbers.now l.k l.initial.list l.list
