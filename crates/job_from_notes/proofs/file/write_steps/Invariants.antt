use Rattle.laws.specs.Listed.{concatenate}
use Rattle.job_from_notes.specs.Putting.{Put}
use Rattle.job_from_notes.specs.TableBytes.{step_in}
use Rattle.job_from_notes.proofs.file.write_steps.Given as goal

abbrev pub invariant-loop-s : goal.invariant-loop-s
invariant-loop-s l = Put l.initial.out l.at (concatenate l.s (step_in l.plan)) l.next l.out
