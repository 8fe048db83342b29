-- Both sides of the rule, from the level's record, whose numbers are read without a sign.
use mathlib.Core.Path.{refl, ap}
use native.Mathlib.Omega.{arith}
use Rattle.levels.proofs.LevelSweeps.{level_low_lem}
use Rattle.levels.proofs.bounds.in_bounds.Goals as goal

pub overflow_add-above : goal.overflow_add-above
overflow_add-above c = omega (arith, (level_low_lem c.args.job.head _ _ c.level-level.ensures).1, c.requires.3)

pub overflow_add-above-2 : goal.overflow_add-above-2
overflow_add-above-2 c = omega (arith, (level_low_lem c.args.job.head _ _ c.level-level.ensures).0, c.requires.0)

pub overflow_add-below : goal.overflow_add-below
overflow_add-below c = omega (arith, (level_low_lem c.args.job.head _ _ c.level-level.ensures).0, c.requires.2)

pub overflow_add-below-2 : goal.overflow_add-below-2
overflow_add-below-2 c = omega (arith, (level_low_lem c.args.job.head _ _ c.level-level.ensures).2, c.requires.1)

pub returns : goal.returns
returns c =
    let level = c.level-level.ensures in
    rw (ap (λ l. l.initial) level, ap (λ l. l.least) level, ap (λ l. l.most) level) refl
