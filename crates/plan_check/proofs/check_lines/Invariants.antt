use Rattle.plan_check.specs.LineAction.{Upto}
use Rattle.plan_check.proofs.check_lines.Given as goal

abbrev pub invariant-loop-s : goal.invariant-loop-s
invariant-loop-s l = Upto l.text l.said l.plan l.lines l.acts l.s
