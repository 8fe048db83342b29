-- The points of the steps in order, then the file.
use native.Mathlib.Omega.{arith}
use Rattle.job.proofs.Ranged.{well_formed_ranged}
use Rattle.partialize.proofs.file_timed.Goals as goal

pub list_own_points-requires : goal.list_own_points-requires
list_own_points-requires c =
    let p = c.requires in
    let w = p.0.valid.form in (
      well_formed_ranged w,
      record {
        listed = omega (arith, w.condition_count, w.effect_count, w.use_count, w.need_count);
        sorted = omega (arith, w.condition_count, w.effect_count, w.use_count, w.need_count);
        grouped = omega (arith, w.fact_count, w.level_count);
      },
      p.1,
    )

pub file_points-requires : goal.file_points-requires
file_points-requires c =
    let p = c.requires in
    (record { timed = p.0; known = c.list_own_points.ensures }, p.1)

pub returns : goal.returns
returns c = c.file_points.ensures
