use Rattle.moves.specs.Others.{NoOther}
use Rattle.moves.proofs.others.next_other.Given as goal

abbrev pub invariant-loop-place : goal.invariant-loop-place
invariant-loop-place l = NoOther l.order l.from l.place l.value l.t
