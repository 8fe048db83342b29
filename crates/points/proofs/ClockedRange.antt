-- What the points of a job rely on, its timed facts among its effects.
use Prim.Native.Nat.{◌≤◌, ◌<◌}
use native.Mathlib.Omega.{arith}
use Rattle.job.specs.Model.{Model}
use Rattle.job.specs.WellFormed.{Ranged}
use Rattle.job.specs.Clocked.{clocked, ClockedForm}
use Rattle.job.proofs.Clocked.{of_both}
use Rattle.points.specs.Points.{ClockedRange}

pub clocked_range : (m : Model) → Ranged m → ClockedRange (clocked m)
clocked_range m w =
    record {
      fact_count = w.fact_count;
      level_count = w.level_count;
      step_count = w.step_count;
      condition_count = w.condition_count;
      effect_count = omega (arith, w.effect_count, w.timed_count);
      use_count = w.use_count;
      need_count = w.need_count;
      initial_value = w.initial_value;
      condition_step = w.condition_step;
      condition_fact = w.condition_fact;
      condition_value = w.condition_value;
      effect_step =
          of_both m (λ n. n ≤ m.steps) m.effect_step (λ _. m.steps) (λ e l. omega (arith, w.effect_step e l)) (λ _ _. omega arith);
      effect_fact = of_both m (λ n. n < m.facts) m.effect_fact m.timed_fact w.effect_fact w.timed_fact;
      effect_value = of_both m (λ n. n ≤ 1) m.effect_value m.timed_value w.effect_value w.timed_value;
      use_step = w.use_step;
      use_level = w.use_level;
      need_step = w.need_step;
      need_level = w.need_level;
    }

pub form_range : {m : Model} → ClockedForm m → ClockedRange m
form_range w =
    record {
      fact_count = w.fact_count;
      level_count = w.level_count;
      step_count = w.step_count;
      condition_count = w.condition_count;
      effect_count = w.effect_count;
      use_count = w.use_count;
      need_count = w.need_count;
      initial_value = w.initial_value;
      condition_step = w.condition_step;
      condition_fact = w.condition_fact;
      condition_value = w.condition_value;
      effect_step = w.effect_step;
      effect_fact = w.effect_fact;
      effect_value = w.effect_value;
      use_step = w.use_step;
      use_level = w.use_level;
      need_step = w.need_step;
      need_level = w.need_level;
    }
