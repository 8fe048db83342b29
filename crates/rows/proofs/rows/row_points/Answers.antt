-- Back over the first points: what is noted of the second only grows, and each row is raised by it.
use mathlib.Core.Path.{refl}
use native.Mathlib.Omega.{arith}
use Rattle.origins.proofs.Reached.{within_all}
use Rattle.rows.proofs.Grouped.{point_known, rowing_start, rowing_noting, rowing_known, rowing_more}
use Rattle.rows.proofs.rows.row_points.Goals as goal

pub loop-p-init : goal.loop-p-init
loop-p-init c =
    let p = c.requires in
    rowing_start p.1 p.3 _ p.2.begins

pub note_from-noted-requires : goal.note_from-noted-requires
note_from-noted-requires c =
    let w = c.requires in
    (c.args.second.high, rowing_noting w.1 w.3 c.loop-p.invariant c.loop-p-test.true c.point_origin-origin.ensures)

pub raise_row-requires : goal.raise_row-requires
raise_row-requires c =
    let w = c.requires in
    let i = c.loop-p.invariant in
    let t = c.loop-p-test.true in
    let e = c.point_origin-origin.ensures in
    let back = c.note_from-noted.ensures _ (rowing_noting w.1 w.3 i t e) in (
      i.reached.whole c.requires.0,
      w.1,
      point_known w.2 w.1 _ (omega (arith, t)) (omega (arith, t, i.upto)) c.args.turn e,
      rowing_known w.1 w.3 i t e back,
    )

pub loop-p-preserved : goal.loop-p-preserved
loop-p-preserved c =
    let w = c.requires in
    let i = c.loop-p.invariant in
    let t = c.loop-p-test.true in
    let e = c.point_origin-origin.ensures in
    let back = c.note_from-noted.ensures _ (rowing_noting w.1 w.3 i t e) in
    rowing_more w.1 w.3 i t e back (λ r q a b h. omega (arith, w.2.rises r q a b h)) c.raise_row.ensures

pub returns : goal.returns
returns c =
    let i = c.loop-p.invariant in
    within_all _ _ _ _ _ _ _ _ (omega (arith, i.from, c.loop-p-test.false)) refl i.reached
