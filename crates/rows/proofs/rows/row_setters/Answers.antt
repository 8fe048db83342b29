-- Back over the setters: each row is raised by what is noted of those behind.
use mathlib.Core.Path.{refl}
use native.Mathlib.Omega.{arith}
use Rattle.origins.proofs.Reached.{within_all}
use Rattle.rows.proofs.Setters.{setting_start, setting_more}
use Rattle.rows.proofs.rows.row_setters.Goals as goal

pub loop-p-init : goal.loop-p-init
loop-p-init c = setting_start c.requires.1 c.requires.2 _

pub loop-p-preserved : goal.loop-p-preserved
loop-p-preserved c =
    let w = c.requires in
    setting_more w.1 w.2 c.loop-p.invariant c.loop-p-test.true w.3 c.point_origin-origin.ensures c.raise_row.ensures
    c.note.ensures

pub returns : goal.returns
returns c =
    let i = c.loop-p.invariant in
    within_all _ _ _ _ _ _ _ _ (omega (arith, i.from, c.loop-p-test.false)) refl i.reached
