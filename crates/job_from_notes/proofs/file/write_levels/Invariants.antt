use Rattle.laws.specs.Listed.{concatenate}
use Rattle.job_from_notes.specs.Putting.{Put}
use Rattle.job_from_notes.specs.TableBytes.{level_in}
use Rattle.job_from_notes.proofs.file.write_levels.Given as goal

abbrev pub invariant-loop-l : goal.invariant-loop-l
invariant-loop-l l = Put l.initial.out l.at (concatenate l.l (level_in l.list)) l.next l.out
