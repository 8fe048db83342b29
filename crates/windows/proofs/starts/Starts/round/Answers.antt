-- The rows that may demand more raise the starts one after the other, by the starts before the round.
use mathlib.Core.Path.{ap}
use native.Mathlib.Omega.{arith}
use Rattle.windows.proofs.Loops.{rows_start, rows_more, rows_same, rows_end, rows_bounded}
use Rattle.windows.proofs.starts.Starts.round.Goals as goal
use Rattle.windows.proofs.starts.Starts.round.Goals.{then-last-i, else-last-i}

pub loop-i-init : goal.loop-i-init
loop-i-init c = rows_start _ _ _ _ _ c.requires.4

pub raise_starts-requires : goal.raise_starts-requires
raise_starts-requires c =
    let p = c.requires in
    let l = c.loop-i in (
      p.0,
      rows_bounded _ _ _ _ _ p.0 p.1 l.auto.i-end l.invariant,
      p.2,
      omega arith,
      omega (arith, p.1.most l.i c.loop-i-test.true),
    )

pub loop-i-preserved : goal.loop-i-preserved
loop-i-preserved c =
    let p = c.requires in
    let v = c.loop-i.invariant in
    elim c.if-last-i.branch [
      | then-last-i w ↦ rows_more _ _ _ _ _ _ v _ _ (ap (λ s. s.at) w.self-is) w.raise_starts.ensures
      | else-last-i w ↦ rows_same _ _ _ _ _ _ v _ (ap (λ s. s.at) w.self-is) _ p.3 c.loop-i-test.true w.if-last-i.false
    ]

pub returns : goal.returns
returns c = rows_end _ _ _ _ _ _ c.loop-i.invariant c.loop-i.auto.i-end c.loop-i-test.false
