-- Rounds until the first that changes nothing.
use Prim.Native.Nat.{◌≤◌}
use mathlib.Core.Path.{refl, ◌∙◌}
use native.Mathlib.Omega.{arith}
use lib.ListN.{length}
use Rattle.windows.proofs.Loops.{reached_start, reached_more, reached_last, reached_end, reached_bounded, given_start, given_more}
use Rattle.windows.proofs.Same.{same_all}
use Rattle.windows.proofs.starts.earliest_starts.Goals as goal

pub loop-rounds-init : goal.loop-rounds-init
loop-rounds-init c = (reached_start _ _ _ _, given_start _ _ _ _ c.requires.1 c.requires.2)

pub round-next-requires : goal.round-next-requires
round-next-requires c =
    let p = c.requires in
    let v = c.loop-rounds.invariant in
    (p.0, reached_bounded _ _ _ _ _ p.0 p.1 p.2 v.0, p.2, v.1, refl)

pub returns-then-eq : goal.returns-then-eq
returns-then-eq c =
    let v = c.round-next.ensures in
    let i = c.loop-rounds.invariant in
    let p = c.requires in
    let before : c.args.n ≤ length c.loop-rounds.starts.at = omega (arith, p.1.size, p.2, i.0.filled.size) in
    let same = c.eq.ensures ∙ same_all _ _ _ (omega (arith, before, v.size)) before in
    let e = reached_last _ _ _ _ _ _ _ i.0 v c.loop-rounds-test.true same c.if-eq.true in
    record { value = e.0; filled = e.1.0; upper_bound = e.1.1 }

pub loop-rounds-preserved : goal.loop-rounds-preserved
loop-rounds-preserved c =
    let v = c.round-next.ensures in
    let i = c.loop-rounds.invariant in
    let p = c.requires in
    let before : c.args.n ≤ length c.loop-rounds.starts.at = omega (arith, p.1.size, p.2, i.0.filled.size) in
    let same = c.eq.ensures ∙ same_all _ _ _ (omega (arith, before, v.size)) before in
    (reached_more _ _ _ _ _ _ _ i.0 v c.loop-rounds-test.true same c.if-eq.false, given_more _ _ _ _ _ v)

pub returns : goal.returns
returns c =
    let e = reached_end _ _ _ _ _ _ c.loop-rounds.invariant.0 c.loop-rounds-test.false in
    record { value = e.0; filled = e.1.0; upper_bound = e.1.1 }
