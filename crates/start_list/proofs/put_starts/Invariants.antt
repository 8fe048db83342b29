use Rattle.start_list.proofs.Storing.{Stored}
use Rattle.start_list.proofs.put_starts.Given as goal

abbrev pub invariant-loop-n : goal.invariant-loop-n
invariant-loop-n l = Stored l.text l.initial.list l.list l.at l.n
