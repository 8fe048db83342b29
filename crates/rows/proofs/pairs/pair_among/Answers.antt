-- Each point in turn.
use Prim.Native.Nat.{◌+◌}
use mathlib.Core.Path.{refl}
use native.Mathlib.Omega.{arith}
use Rattle.order_file.specs.Table.{row_width}
use Rattle.origins.proofs.Reached.{within_up, within_all}
use Rattle.rows.proofs.Grouped.{group_from, point_known, later_given}
use Rattle.rows.proofs.pairs.pair_among.Goals as goal

pub raise_after-requires : goal.raise_after-requires
raise_after-requires c =
    let w = c.requires.1 in
    let t = c.loop-p-test.true in (
      (c.loop-p.invariant row_width (omega arith) w).whole c.requires.0,
      point_known w (omega arith) _ c.loop-p.auto.p t c.args.turn c.point_origin-origin.ensures,
      group_from w (omega arith) (c.loop-p.p + 1) (omega (arith, c.loop-p.auto.p)) (omega (arith, t)),
    )

pub loop-p-preserved : goal.loop-p-preserved
loop-p-preserved c n few group =
    let low = c.loop-p.auto.p in
    let t = c.loop-p-test.true in
    let e = c.point_origin-origin.ensures in
    let starts = c.args.starts.now in
    let points = c.args.points.now in
    let step = (point_known group few _ low t c.args.turn e).step in
    let rest = group_from group few (c.loop-p.p + 1) (omega (arith, low)) (omega (arith, t)) in
    within_up _ _ _ _ _ _ _ low (c.loop-p.invariant n few group)
    (later_given starts points n _ _ c.loop-p.p c.args.turn _ _ group low t e (c.raise_after.ensures n few step rest))

pub returns : goal.returns
returns c n few group =
    within_all _ _ _ _ _ _ _ _ refl (omega (arith, c.loop-p.auto.p-end, c.requires.1.begins, c.loop-p-test.false)) (c.loop-p.invariant n few group)
