use Rattle.spelled_numbers.proofs.Numbers.{Counted}
use Rattle.spelled_numbers.proofs.digits.Given as goal

abbrev pub invariant-loop-b : goal.invariant-loop-b
invariant-loop-b l = Counted l.word l.most l.b-index l.n
