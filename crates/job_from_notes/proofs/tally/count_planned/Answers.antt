-- The records of one more step are counted.
use mathlib.Core.Path.{refl}
use native.Mathlib.Omega.{arith}
use Rattle.laws.specs.Fold.{sum}
use Rattle.job_from_notes.proofs.Walk.{planned_more}
use Rattle.job_from_notes.proofs.tally.count_planned.Goals as goal

pub loop-s-init : goal.loop-s-init
unfolding sum
loop-s-init c = (omega arith, refl)

pub loop-s-preserved : goal.loop-s-preserved
loop-s-preserved c =
    let v = c.loop-s.invariant in (
      omega (arith, c.count_notes-count.ensures.1, c.requires.few, v.0),
      planned_more _ _ _ _ _ _ v.1 c.lasts.ensures (rw c.from.ensures at c.count_notes-count.ensures.0),
    )
