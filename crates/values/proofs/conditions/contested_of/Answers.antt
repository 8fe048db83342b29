-- Condition by condition, beside the setters.
use mathlib.Core.Path.{refl}
use native.Mathlib.Omega.{arith}
use Rattle.values.proofs.Walked.{walked_start, walked_listed, walked_before, walked_at, walked_more, walked_end}
use Rattle.values.proofs.conditions.contested_of.Goals as goal
use Rattle.values.proofs.conditions.contested_of.Goals.{then-is_contested, else-is_contested}

pub begin_at-requires : goal.begin_at-requires
begin_at-requires c = let p = c.requires in omega (arith, p.0.known.room, p.1)

pub begin_at-requires-2 : goal.begin_at-requires-2
begin_at-requires-2 c = let p = c.requires in omega (arith, p.0.known.room, p.1)

pub begin_at-end-requires : goal.begin_at-end-requires
begin_at-end-requires c = let p = c.requires in omega (arith, p.0.known.room, p.1)

pub begin_at-q-requires : goal.begin_at-q-requires
begin_at-q-requires c = let p = c.requires in omega (arith, p.0.known.room, p.1)

pub loop-q-init : goal.loop-q-init
loop-q-init c =
    let p = c.requires in
    let low = c.begin_at.ensures.0 in
    let high = c.begin_at-2.ensures.0 in
    walked_start p.0 p.1 c.begin_at-end.ensures.0
    (record { low = low; high = high; initial = c.fact_initial.ensures })
    c.begin_at-q.ensures.0

pub bounds-points-q : goal.bounds-points-q
bounds-points-q c = walked_listed c.loop-q.invariant c.loop-q-test.true

pub walk_to-walk-requires : goal.walk_to-walk-requires
walk_to-walk-requires c = walked_before c.loop-q.invariant c.loop-q-test.true

pub is_contested-requires : goal.is_contested-requires
is_contested-requires c = walked_at c.loop-q.invariant c.loop-q-test.true c.walk_to-walk.ensures

pub loop-q-preserved : goal.loop-q-preserved
loop-q-preserved c =
    let so = c.loop-q.invariant in
    let h = c.loop-q-test.true in
    elim c.if-is_contested.branch [
      | then-is_contested w ↦
          walked_more so h c.walk_to-walk.ensures w.number_of.ensures.0 c.is_contested.ensures (rw w.if-is_contested.true (omega arith))
      | else-is_contested w ↦ walked_more so h c.walk_to-walk.ensures refl c.is_contested.ensures (rw w.if-is_contested.false w.best-is)
    ]

pub returns : goal.returns
returns c = walked_end c.loop-q.invariant c.loop-q-test.false
