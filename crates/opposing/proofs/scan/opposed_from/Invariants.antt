use lib.ListN.{get_or}
use Rattle.opposing.specs.Against.{against}
use Rattle.opposing.proofs.Scanned.{Passed}
use Rattle.opposing.proofs.scan.opposed_from.Given as goal

abbrev pub invariant-loop-p : goal.invariant-loop-p
invariant-loop-p l = Passed (λ p. against (get_or l.points p 0) l.value l.step) l.from l.p
