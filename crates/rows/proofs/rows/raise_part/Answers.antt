-- Entry by entry.
use native.Mathlib.Omega.{arith}
use Rattle.origins.proofs.Row.{rowed_more}
use Rattle.rows.proofs.rows.raise_part.Goals as goal

pub loop-k-preserved : goal.loop-k-preserved
loop-k-preserved c =
    let t = c.loop-k-test.true in
    rowed_more _ _ _ _ _ (omega (arith, c.requires.1.within, c.requires.0, c.requires.1.whole.size, t)) c.loop-k.invariant c.higher.ensures
