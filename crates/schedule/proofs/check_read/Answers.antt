-- A small job's points have little room, and any job's have the most.
use native.Mathlib.Omega.{arith}
use Rattle.schedule.proofs.Reading.{read_in_range}
use Rattle.schedule.proofs.check_read.Goals as goal

pub check_within-requires : goal.check_within-requires
check_within-requires c =
    let few = c.is_small.ensures c.if-is_small.true in
    (c.requires, record { listed = few.points; grouped = omega (arith, few.groups); fits = (omega arith, omega arith) })

pub check_within-requires-else-is_small : goal.check_within-requires-else-is_small
check_within-requires-else-is_small c =
    let w = read_in_range c.requires in (
      c.requires,
      record {
        listed = omega (arith, w.condition_count, w.effect_count, w.timed_count, w.use_count, w.need_count);
        grouped = omega (arith, w.fact_count, w.level_count);
        fits = (omega arith, omega arith);
      },
    )
