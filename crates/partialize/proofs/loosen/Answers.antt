-- A small job's points have little room, and any job's have the most.
use native.Mathlib.Omega.{arith}
use Rattle.partialize.proofs.loosen.Goals as goal

pub loosen_within-requires : goal.loosen_within-requires
loosen_within-requires c =
    let few = c.is_small.ensures c.if-is_small.true in
    (c.requires, record { listed = few.points; grouped = omega (arith, few.groups); fits = (omega arith, omega arith) })

pub loosen_within-requires-else-is_small : goal.loosen_within-requires-else-is_small
loosen_within-requires-else-is_small c =
    let w = c.requires.ranged in (
      c.requires,
      record {
        listed = omega (arith, w.condition_count, w.effect_count, w.timed_count, w.use_count, w.need_count);
        grouped = omega (arith, w.fact_count, w.level_count);
        fits = (omega arith, omega arith);
      },
    )
