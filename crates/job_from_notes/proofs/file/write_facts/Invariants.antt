use Rattle.laws.specs.Listed.{concatenate}
use Rattle.job_from_notes.specs.Putting.{Put}
use Rattle.job_from_notes.specs.TableBytes.{byte_in}
use Rattle.job_from_notes.proofs.file.write_facts.Given as goal

abbrev pub invariant-loop-f : goal.invariant-loop-f
invariant-loop-f l = Put l.initial.out l.at (concatenate l.f (byte_in l.list)) l.next l.out
