-- Need by need, beside the uses.
use mathlib.Core.Path.{refl}
use native.Mathlib.Omega.{arith}
use Rattle.job.specs.Clocked.{clocked}
use Rattle.job.specs.Model.{view}
use Rattle.needs.proofs.LevelNeeds.{visited_start, visited_listed, visited_behind, visited_one, visited_more, visited_end}
use Rattle.needs.proofs.with_level.Goals as goal
use Rattle.needs.proofs.with_level.Goals.{then-is_unmet, else-is_unmet}

pub begin_at-high-requires : goal.begin_at-high-requires
begin_at-high-requires c = let p = c.requires in omega (arith, p.1, p.2.1.room)

pub begin_at-end-requires : goal.begin_at-end-requires
begin_at-end-requires c = let p = c.requires in omega (arith, p.1, p.2.1.room)

pub begin_at-requires : goal.begin_at-requires
begin_at-requires c = let p = c.requires in omega (arith, p.1, p.2.1.room)

pub begin_at-q-requires : goal.begin_at-q-requires
begin_at-q-requires c = let p = c.requires in omega (arith, p.1, p.2.1.room)

pub loop-q-init : goal.loop-q-init
loop-q-init c =
    let p = c.requires in
    visited_start p.2 p.1 c.begin_at-high.ensures c.begin_at-end.ensures.0 c.begin_at.ensures.0
    c.begin_at-q.ensures.0

pub bounds-points-q : goal.bounds-points-q
bounds-points-q c = visited_listed c.loop-q.invariant c.loop-q-test.true

pub sums_before-sums-requires : goal.sums_before-sums-requires
sums_before-sums-requires c = (_, visited_behind c.loop-q.invariant c.loop-q-test.true)

pub is_unmet-requires : goal.is_unmet-requires
is_unmet-requires c =
    let m = clocked (view c.args.timeline.job.head c.args.timeline.job.bytes.now) in (
      c.requires.0,
      c.loop-q.invariant.few,
      visited_one {m = m} c.loop-q.invariant c.loop-q-test.true c.sums_before-sums.ensures,
    )

pub loop-q-preserved : goal.loop-q-preserved
loop-q-preserved c =
    let so = c.loop-q.invariant in
    let h = c.loop-q-test.true in
    elim c.if-is_unmet.branch [
      | then-is_unmet w ↦
          visited_more so h c.sums_before-sums.ensures w.number_of.ensures.0 c.is_unmet.ensures (rw w.if-is_unmet.true (omega arith))
      | else-is_unmet w ↦ visited_more so h c.sums_before-sums.ensures refl c.is_unmet.ensures (rw w.if-is_unmet.false w.best-is)
    ]

pub returns : goal.returns
returns c = visited_end c.loop-q.invariant c.loop-q-test.false
