-- Each setter in turn.
use mathlib.Core.Path.{refl}
use Rattle.origins.proofs.Reached.{within_all}
use Rattle.rows.proofs.Part.{part_at, part_end, part_more}
use Rattle.rows.proofs.pairs.raise_around.Goals as goal

pub loop-word-preserved : goal.loop-word-preserved
loop-word-preserved c =
    let a = c.args in
    part_more _ _ _ _ _ _ _ c.loop-word.invariant (rw (part_at a.points.now a.low a.high c.loop-word-test.true) at c.raise_beside.ensures)

pub returns : goal.returns
returns c =
    let group = c.requires.3 in
    within_all _ _ _ _ _ _ _ _ refl (part_end c.args.points.now _ _ group.begins group.ends c.loop-word.auto.word-index-end c.loop-word-test.false)
    c.loop-word.invariant
