use Rattle.laws.specs.Listed.{concatenate}
use Rattle.job_from_notes.specs.Brought.{parts_of_step}
use Rattle.job_from_notes.specs.Putting.{Put}
use Rattle.job_from_notes.proofs.entries.write_planned.Given as goal

abbrev pub invariant-loop-s : goal.invariant-loop-s
invariant-loop-s l = Put l.initial.out l.at (concatenate l.s (parts_of_step l.kind l.noted.said.now l.noted.numbers.now l.plan l.acts)) l.next l.out
