-- Each condition in turn.
use Prim.Native.Nat.{◌+◌}
use mathlib.Core.Path.{refl}
use native.Mathlib.Omega.{arith}
use Rattle.job.specs.Model.{view}
use Rattle.validity.specs.Ticks.{schedule_of}
use Rattle.origins.proofs.Reached.{within_all}
use Rattle.rows.proofs.Grouped.{group_wide, group_notable, last_known, origin_wide}
use Rattle.rows.proofs.Beside.{around_given, fact_paired}
use Rattle.rows.proofs.Part.{part_below, part_at, part_end, part_more}
use Rattle.rows.proofs.pairs.pair_conditions.Goals as goal

pub offset_of-from-requires : goal.offset_of-from-requires
offset_of-from-requires c =
    let w = c.requires.0.placed in
    let fact = c.args.fact in
    let t = c.loop-word-test.true in
    rw (part_at c.args.points.now fact.after fact.until t)
    (group_notable w.wanted w.few _ (omega arith) (part_below c.args.points.now fact.after fact.until t))

pub raise_around-requires : goal.raise_around-requires
raise_around-requires c =
    let w = c.requires.0.placed in
    let t = c.loop-word-test.true in
    let fact = c.args.fact in
    let there = part_below c.args.points.now fact.after fact.until t in
    let read = part_at c.args.points.now fact.after fact.until t in
    let origin = rw read at c.last_origin-origin.ensures in
    let from = rw read at c.offset_of-from.ensures in
    let p = fact.after + c.loop-word.word-index in
    let m = view c.args.job.head c.args.job.bytes.now in (
      c.loop-word.invariant.whole c.requires.1,
      origin_wide w.few (last_known w.wanted w.few p (omega arith) there m origin (c.requires.0.ended p (omega arith) there)),
      omega (arith, from, w.wanted.near p (omega arith) there),
      group_wide w.setters w.few,
    )

pub loop-word-preserved : goal.loop-word-preserved
loop-word-preserved c =
    let fact = c.args.fact in
    let read = part_at c.args.points.now fact.after fact.until c.loop-word-test.true in
    part_more _ _ _ _ _ _ _ c.loop-word.invariant
    (around_given (view c.args.job.head c.args.job.bytes.now) (schedule_of c.args.starts.now) c.args.points.now fact _ _ _
    (rw read at c.last_origin-origin.ensures) (rw read at c.offset_of-from.ensures) c.raise_around.ensures)

pub returns : goal.returns
returns c =
    let wanted = c.requires.0.placed.wanted in
    fact_paired (view c.args.job.head c.args.job.bytes.now) (schedule_of c.args.starts.now) c.args.points.now c.args.fact _ _ _
    c.requires.0.placed
    (within_all _ _ _ _ _ _ _ _ refl (part_end c.args.points.now _ _ wanted.begins wanted.ends c.loop-word.auto.word-index-end c.loop-word-test.false)
    c.loop-word.invariant)
