use Rattle.start_list.proofs.Words.{Passed}
use Rattle.start_list.proofs.word_end.Given as goal

abbrev pub invariant-loop-k : goal.invariant-loop-k
invariant-loop-k l = Passed l.text l.at l.k
