-- Back over the conditions.
use mathlib.Core.Path.{refl}
use native.Mathlib.Omega.{arith}
use Rattle.job.specs.Model.{view}
use Rattle.origins.proofs.Reached.{within_all}
use Rattle.rows.proofs.Grouped.{last_known, rowing_start, rowing_noting, rowing_known, rowing_more}
use Rattle.rows.proofs.rows.row_conditions.Goals as goal

pub loop-p-init : goal.loop-p-init
loop-p-init c =
    let w = c.requires.0.placed in
    rowing_start w.few w.setters _ w.wanted.begins

pub note_from-noted-requires : goal.note_from-noted-requires
note_from-noted-requires c =
    let w = c.requires.0.placed in
    (c.args.fact.high, rowing_noting w.few w.setters c.loop-p.invariant c.loop-p-test.true c.last_origin-origin.ensures)

pub raise_row-requires : goal.raise_row-requires
raise_row-requires c =
    let w = c.requires.0.placed in
    let i = c.loop-p.invariant in
    let t = c.loop-p-test.true in
    let e = c.last_origin-origin.ensures in
    let m = view c.args.job.head c.args.job.bytes.now in
    let back = c.note_from-noted.ensures _ (rowing_noting w.few w.setters i t e) in (
      i.reached.whole c.requires.1,
      w.few,
      last_known w.wanted w.few _ (omega (arith, t)) (omega (arith, t, i.upto)) m e
          (c.requires.0.ended _ (omega (arith, t)) (omega (arith, t, i.upto))),
      rowing_known w.few w.setters i t e back,
    )

pub loop-p-preserved : goal.loop-p-preserved
loop-p-preserved c =
    let w = c.requires.0.placed in
    let i = c.loop-p.invariant in
    let t = c.loop-p-test.true in
    let e = c.last_origin-origin.ensures in
    let back = c.note_from-noted.ensures _ (rowing_noting w.few w.setters i t e) in
    rowing_more w.few w.setters i t e back w.wanted.rises c.raise_row.ensures

pub returns : goal.returns
returns c =
    let i = c.loop-p.invariant in
    within_all _ _ _ _ _ _ _ _ (omega (arith, i.from, c.loop-p-test.false)) refl i.reached
