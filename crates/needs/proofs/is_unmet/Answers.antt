-- What the level has risen to, against the need's least and the falls.
use native.Mathlib.Omega.{arith}
use Rattle.levels.proofs.LevelSweeps.{summed_low}
use Rattle.needs.proofs.LevelNeeds.{need_low, unmet_there}
use Rattle.needs.proofs.is_unmet.Goals as goal

pub need-need-requires : goal.need-need-requires
need-need-requires c = let p = c.requires in (p.0, omega (arith, c.number_of.ensures.0, p.2.1.counted))

pub falls_against-falls-requires : goal.falls_against-falls-requires
falls_against-falls-requires c = let p = c.requires in (p.1, p.2)

pub overflow_add-result : goal.overflow_add-result
overflow_add-result c =
    let p = c.requires in
    omega (arith, c.level_initial-initial.ensures.1, (summed_low p.2.1.summed p.1).0)

pub overflow_add-result-2 : goal.overflow_add-result-2
overflow_add-result-2 c = omega (arith, need_low c.args.job.head _ _ c.need-need.ensures, c.falls_against-falls.ensures.0)

pub returns : goal.returns
returns c x at =
    unmet_there at c.number_of.ensures.0 c.need-need.ensures
    c.level_initial-initial.ensures.0 (c.falls_against-falls.ensures.1 x at)
