-- Back from the last noted place, up to the first point before tick t.
use Prim.Native.Nat.{◌+◌, ◌-◌}
use mathlib.Core.Path.{◌≡◌}
use native.Mathlib.Omega.{arith}
use Rattle.rows.proofs.Grouped.{noting_found, noting_all, noting_more}
use Rattle.rows.proofs.rows.note_from.Goals as goal

pub returns-then-tick_of-t : goal.returns-then-tick_of-t
returns-then-tick_of-t c high w =
    let back : c.loop-p.p - 1 + 1 ≡ c.loop-p.p = omega (arith, c.loop-p-test.true) in
    rw back (noting_found (c.loop-p.invariant high w) c.loop-p-test.true c.tick_of.ensures.0 c.if-tick_of-t.true)

pub loop-p-preserved : goal.loop-p-preserved
loop-p-preserved c high w =
    noting_more (c.loop-p.invariant high w) c.loop-p-test.true c.tick_of.ensures.0 c.if-tick_of-t.false c.note.ensures

pub returns : goal.returns
returns c high w =
    let n = c.loop-p.invariant high w in
    let none : c.loop-p.p ≡ c.args.low = omega (arith, n.from, c.loop-p-test.false) in
    rw none at (noting_all n c.loop-p-test.false)
