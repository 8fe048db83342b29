use Rattle.gaps.specs.Rules.{Cleared}
use Rattle.gaps.proofs.fill.clear_own.Given as goal

abbrev pub invariant-loop-i : goal.invariant-loop-i
invariant-loop-i l = Cleared l.i l.initial.gaps l.gaps
