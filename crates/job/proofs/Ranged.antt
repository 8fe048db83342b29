-- A well-formed job keeps what its points rely on.
use Rattle.job.specs.Model.{Model}
use Rattle.job.specs.WellFormed.{WellFormed, Ranged}

pub well_formed_ranged : {m : Model} → WellFormed m → Ranged m
well_formed_ranged w =
    record {
      fact_count = w.fact_count;
      level_count = w.level_count;
      step_count = w.step_count;
      condition_count = w.condition_count;
      effect_count = w.effect_count;
      use_count = w.use_count;
      timed_count = w.timed_count;
      need_count = w.need_count;
      initial_value = w.initial_value;
      length_range = w.length_range;
      condition_step = w.condition_step;
      condition_fact = w.condition_fact;
      condition_span = w.condition_span;
      condition_end = w.condition_end;
      condition_value = w.condition_value;
      effect_step = w.effect_step;
      effect_fact = w.effect_fact;
      effect_end = w.effect_end;
      effect_value = w.effect_value;
      use_step = w.use_step;
      use_level = w.use_level;
      use_end = w.use_end;
      timed_fact = w.timed_fact;
      timed_tick = w.timed_tick;
      timed_value = w.timed_value;
      need_step = w.need_step;
      need_level = w.need_level;
      need_end = w.need_end;
      need_from = w.need_from;
      need_to = w.need_to;
    }
