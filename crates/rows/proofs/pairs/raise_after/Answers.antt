-- Each point in turn.
use mathlib.Core.Path.{refl}
use native.Mathlib.Omega.{arith}
use Rattle.order_file.specs.Table.{row_width}
use Rattle.origins.proofs.Reached.{within_all}
use Rattle.rows.proofs.Grouped.{group_notable}
use Rattle.rows.proofs.Part.{part_below, part_at, part_end, part_more}
use Rattle.rows.proofs.pairs.raise_after.Goals as goal

pub raise_onto-requires : goal.raise_onto-requires
raise_onto-requires c =
    let a = c.args in
    let i = c.loop-word.invariant in
    let t = c.loop-word-test.true in (
      (i.reached row_width (omega arith) c.requires.1.step c.requires.2).whole c.requires.0,
      c.requires.1,
      rw (part_at a.points.now a.low a.high t) (group_notable c.requires.2 (omega arith) _ i.from (part_below a.points.now a.low a.high t)),
    )

pub loop-word-preserved : goal.loop-word-preserved
loop-word-preserved c =
    let a = c.args in
    let i = c.loop-word.invariant in
    let t = c.loop-word-test.true in
    let there = part_below a.points.now a.low a.high t in
    let more = rw (part_at a.points.now a.low a.high t) at c.raise_onto.ensures in
    record {
      from = omega (arith, i.from);
      upto = omega (arith, there);
      reached = λ n few step group.
          part_more _ _ _ _ _ _ _ (i.reached n few step group) (more n few step (group.step _ i.from there));
    }

pub returns : goal.returns
returns c n few step group =
    let i = c.loop-word.invariant in
    within_all _ _ _ _ _ _ _ _ refl (part_end c.args.points.now _ _ group.begins group.ends c.loop-word.auto.word-index-end c.loop-word-test.false)
    (i.reached n few step group)
