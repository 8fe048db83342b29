-- Each point in turn; the timed facts before it have been passed.
use native.Mathlib.Omega.{arith}
use lib.ListN.{get_or}
use Rattle.timeline.specs.Words.{tick_at}
use Rattle.validity.specs.Ticks.{schedule_of}
use Rattle.moves.specs.Moved.{Up}
use Rattle.moves.proofs.Moved.{up_same, up_on, moved_none, moved_empty, moved_more, moved_all}
use Rattle.limits.proofs.Walked.{walking_first, walking_later, other_timed, later_all}
use Rattle.limits.proofs.earliest.raise_points.Goals as goal

pub returns-then-span : goal.returns-then-span
returns-then-span c = moved_none Up up_same up_on _ _ (λ k v o. absurd (omega (arith, o.3.1, o.3.2, c.if-span.true)))

pub loop-p-init : goal.loop-p-init
loop-p-init c = (λ q a b. walking_first (tick_at c.args.points.now q) c.requires.1, moved_empty Up up_same up_on _ _ _)

pub advance-cursor-requires : goal.advance-cursor-requires
advance-cursor-requires c = rw c.tick_of.ensures.0 (c.loop-p.invariant.0 _ (omega arith) c.loop-p-test.true)

pub raise_point-requires : goal.raise_point-requires
raise_point-requires c =
    let low = c.loop-p.auto.p in (
      omega (arith, c.requires.0.spanned.step _ low c.loop-p-test.true, c.loop-p.invariant.1.size),
      c.requires.0.begun _ low c.loop-p-test.true,
      other_timed c.requires.1 c.advance-cursor.ensures.0 c.advance-cursor.ensures.1 c.last_other-last.ensures,
    )

pub loop-p-preserved : goal.loop-p-preserved
loop-p-preserved c =
    let i = c.loop-p.invariant in
    let low = c.loop-p.auto.p in
    let p = c.loop-p.p in
    let points = c.args.points.now in
    let parted = c.advance-cursor.ensures.0 in
    let run = c.advance-cursor.ensures.1 in
    let here = c.tick_of.ensures.0 in (
      λ q a b. walking_later c.requires.1 parted run (omega (arith, here, c.requires.0.spanned.rises p q low (omega arith) b)),
      moved_more Up up_same up_on _ _ _ _ _ _ low i.1
          (later_all c.requires.1 parted run c.last_other-last.ensures (schedule_of c.args.starts.now) (get_or points p 0) _ _
          here c.value_of.ensures.0 c.raise_point.ensures),
    )

pub returns : goal.returns
returns c =
    let high = c.loop-p.auto.p-end c.requires.0.spanned.begins in
    moved_all Up up_same up_on _ _ _ _ _ _ high (omega (arith, c.loop-p-test.false)) c.loop-p.invariant.1
