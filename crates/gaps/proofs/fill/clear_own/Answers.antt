-- One after the other.
use Rattle.gaps.proofs.Filled.{cleared_more}
use Rattle.gaps.proofs.fill.clear_own.Goals as goal

pub loop-i-preserved : goal.loop-i-preserved
loop-i-preserved c =
    cleared_more _ _ _ c.loop-i-test.true c.requires c.loop-i.invariant
