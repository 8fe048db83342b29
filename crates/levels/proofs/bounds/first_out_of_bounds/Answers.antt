-- Level by level, up to the first that fails.
use native.Mathlib.Omega.{arith}
use Rattle.laws.proofs.Search.{lowest_start, lowest_more, first_found, first_none}
use Rattle.levels.proofs.LevelSweeps.{uses_placed, uses_stretch}
use Rattle.levels.proofs.bounds.first_out_of_bounds.Goals as goal

pub loop-l-init : goal.loop-l-init
loop-l-init c x known = lowest_start _

pub begin_at-low-requires : goal.begin_at-low-requires
begin_at-low-requires c = omega (arith, c.requires.1.room, c.loop-l-test.true)

pub begin_at-high-requires : goal.begin_at-high-requires
begin_at-high-requires c = omega (arith, c.requires.1.room, c.loop-l-test.true)

pub level_fails-requires : goal.level_fails-requires
level_fails-requires c =
    uses_stretch _ c.loop-l-test.true c.begin_at-low.ensures.0 c.begin_at-high.ensures.0 c.requires c.begin_at-high.ensures.1

pub returns-then-level_fails : goal.returns-then-level_fails
returns-then-level_fails c x known =
    let l = c.loop-l-test.true in
    let placed = uses_placed _ l c.begin_at-low.ensures.0 c.begin_at-high.ensures.0 x known in
    first_found _ _ _ (c.loop-l.invariant x known) l (c.level_fails.ensures x placed) c.if-level_fails.true

pub loop-l-preserved : goal.loop-l-preserved
loop-l-preserved c x known =
    let placed = uses_placed _ c.loop-l-test.true c.begin_at-low.ensures.0 c.begin_at-high.ensures.0 x known in
    lowest_more _ _ (c.loop-l.invariant x known) (c.level_fails.ensures x placed) c.if-level_fails.false

pub returns : goal.returns
returns c x known = first_none _ _ _ (c.loop-l.invariant x known) c.loop-l.auto.l-end c.loop-l-test.false
