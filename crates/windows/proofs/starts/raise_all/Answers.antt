-- To the end of the row.
use native.Mathlib.Omega.{arith}
use Rattle.laws.proofs.Listed.{filled_start, filled_more, filled_end}
use Rattle.windows.proofs.starts.raise_all.Goals as goal

pub loop-k-init : goal.loop-k-init
loop-k-init c = filled_start _ _

pub raised_to-requires : goal.raised_to-requires
raised_to-requires c =
    let l = c.loop-k in
    let p = c.requires in
    (p.0, p.2, omega arith, p.3, omega (arith, l.invariant.rest l.k (omega arith), p.1.most l.k c.loop-k-test.true))

pub loop-k-preserved : goal.loop-k-preserved
loop-k-preserved c =
    let l = c.loop-k in
    filled_more _ _ _ _ _ (omega (arith, c.requires.1.size)) l.invariant
    (omega (arith, c.raised_to.ensures, l.invariant.rest l.k (omega arith)))

pub returns : goal.returns
returns c = filled_end _ _ _ _ _ c.loop-k.invariant c.loop-k.auto.k-end c.loop-k-test.false
