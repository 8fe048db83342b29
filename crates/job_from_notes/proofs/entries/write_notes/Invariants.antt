use Rattle.job_from_notes.specs.Brought.{parts_from}
use Rattle.job_from_notes.specs.Putting.{Putting}
use Rattle.job_from_notes.proofs.entries.write_notes.Given as goal

abbrev pub invariant-loop-k : goal.invariant-loop-k
invariant-loop-k l =
    Putting l.initial.out l.at (parts_from l.span.step l.span.duration l.kind l.noted.said.now l.noted.numbers.now l.from)
    (parts_from l.span.step l.span.duration l.kind l.noted.said.now l.noted.numbers.now l.k)
    l.next l.out
