-- No line passed differs, and each action stands where it is kept.
use Rattle.plan_check.proofs.Lines.{checked_other, checked_all}
use Rattle.plan_check.proofs.check_lines.Goals as goal

pub returns-in-None : goal.returns-in-None
returns-in-None c = checked_other _ _ _ _ _ c.loop-s.invariant c.loop-s-test.true c.in-None.ensures

pub returns : goal.returns
returns c = checked_all _ _ _ _ _ c.loop-s.invariant c.loop-s-test.false
