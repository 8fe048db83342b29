-- What holds of the job in a file that refusals 1 to 7 and 17 pass. Plain statements, one a sentence.
use Rattle.std.specs.Prelude.{ℕ, ◌≤◌, ◌<◌, ◌≡◌, ◌⊎◌}
use Rattle.job.specs.Layout.{most_facts, most_levels, most_steps, most_conditions, most_effects, most_uses, most_goals, most_timed, most_needs}
use Rattle.little_endian.specs.Bytes.{sign_bias}
use Rattle.job.specs.Model.{Model, last_start, longest, last_deadline, no_deadline, last_timed, lowest_level, highest_level, lowest_amount, highest_amount}

pub record WellFormed (m : Model) : Type 0 where
  -- counts
  pub fact_count : m.facts ≤ most_facts
  pub level_count : m.levels ≤ most_levels
  pub step_count : m.steps ≤ most_steps
  pub condition_count : m.conditions ≤ most_conditions
  pub effect_count : m.effects ≤ most_effects
  pub use_count : m.uses ≤ most_uses
  pub goal_count : m.goals ≤ most_goals
  pub timed_count : m.timed ≤ most_timed
  pub need_count : m.needs ≤ most_needs
  -- facts and levels
  pub initial_value : (k : ℕ) → k < m.facts → m.initial k ≤ 1
  pub level_from : (k : ℕ) → k < m.levels → lowest_level ≤ m.level_least k
  pub level_low : (k : ℕ) → k < m.levels → m.level_least k ≤ m.level_initial k
  pub level_high : (k : ℕ) → k < m.levels → m.level_initial k ≤ m.level_most k
  pub level_to : (k : ℕ) → k < m.levels → m.level_most k ≤ highest_level
  -- steps
  pub start_range : (k : ℕ) → k < m.steps → m.start k ≤ last_start
  pub length_range : (k : ℕ) → k < m.steps → m.step_length k ≤ longest
  pub fixed_mark : (k : ℕ) → k < m.steps → m.fixed k ≤ 1
  -- conditions
  pub condition_step : (k : ℕ) → k < m.conditions → m.condition_step k < m.steps
  pub condition_fact : (k : ℕ) → k < m.conditions → m.condition_fact k < m.facts
  pub condition_span : (k : ℕ) → k < m.conditions → m.condition_from k ≤ m.condition_to k
  pub condition_end : (k : ℕ) → k < m.conditions → m.condition_to k ≤ m.step_length (m.condition_step k)
  pub condition_value : (k : ℕ) → k < m.conditions → m.condition_value k ≤ 1
  -- effects
  pub effect_step : (k : ℕ) → k < m.effects → m.effect_step k < m.steps
  pub effect_fact : (k : ℕ) → k < m.effects → m.effect_fact k < m.facts
  pub effect_end : (k : ℕ) → k < m.effects → m.effect_at k ≤ m.step_length (m.effect_step k)
  pub effect_value : (k : ℕ) → k < m.effects → m.effect_value k ≤ 1
  -- uses
  pub use_step : (k : ℕ) → k < m.uses → m.use_step k < m.steps
  pub use_level : (k : ℕ) → k < m.uses → m.use_level k < m.levels
  pub use_end : (k : ℕ) → k < m.uses → m.use_at k ≤ m.step_length (m.use_step k)
  pub use_from : (k : ℕ) → k < m.uses → lowest_amount ≤ m.use_amount k
  pub use_to : (k : ℕ) → k < m.uses → m.use_amount k ≤ highest_amount
  pub use_not_zero : (k : ℕ) → k < m.uses → m.use_amount k ≡ sign_bias → ⊥
  -- goals
  pub goal_fact : (k : ℕ) → k < m.goals → m.goal_fact k < m.facts
  pub goal_value : (k : ℕ) → k < m.goals → m.goal_value k ≤ 1
  pub goal_deadline : (k : ℕ) → k < m.goals → (m.goal_deadline k ≤ last_deadline) ⊎ (m.goal_deadline k ≡ no_deadline)
  -- timed facts
  pub timed_fact : (k : ℕ) → k < m.timed → m.timed_fact k < m.facts
  pub timed_tick : (k : ℕ) → k < m.timed → m.timed_tick k ≤ last_timed
  pub timed_value : (k : ℕ) → k < m.timed → m.timed_value k ≤ 1
  -- needs
  pub need_step : (k : ℕ) → k < m.needs → m.need_step k < m.steps
  pub need_level : (k : ℕ) → k < m.needs → m.need_level k < m.levels
  pub need_end : (k : ℕ) → k < m.needs → m.need_at k ≤ m.step_length (m.need_step k)
  pub need_from : (k : ℕ) → k < m.needs → lowest_level ≤ m.need_least k
  pub need_to : (k : ℕ) → k < m.needs → m.need_least k ≤ highest_level
  -- no step is against itself
  pub one_way :
      (e f : ℕ) → e < m.effects → f < m.effects → m.effect_step e ≡ m.effect_step f → m.effect_fact e ≡ m.effect_fact f
      → m.effect_at e ≡ m.effect_at f
      → m.effect_value e ≡ m.effect_value f
  pub one_use :
      (u v : ℕ) → u < m.uses → v < m.uses → m.use_step u ≡ m.use_step v → m.use_level u ≡ m.use_level v → m.use_at u ≡ m.use_at v
      → u ≡ v
  pub keeps_own :
      (e c : ℕ) → e < m.effects → c < m.conditions → m.effect_step e ≡ m.condition_step c → m.effect_fact e ≡ m.condition_fact c
      → m.condition_from c ≤ m.effect_at e
      → m.effect_at e < m.condition_to c
      → m.effect_value e ≡ m.condition_value c
  -- and the clock is not
  pub timed_one_way :
      (j k : ℕ) → j < m.timed → k < m.timed → m.timed_fact j ≡ m.timed_fact k → m.timed_tick j ≡ m.timed_tick k
      → m.timed_value j ≡ m.timed_value k

-- what refusals 1 to 6 leave of it that the points of a job rely on
pub record Ranged (m : Model) : Type 0 where
  pub fact_count : m.facts ≤ most_facts
  pub level_count : m.levels ≤ most_levels
  pub step_count : m.steps ≤ most_steps
  pub condition_count : m.conditions ≤ most_conditions
  pub effect_count : m.effects ≤ most_effects
  pub use_count : m.uses ≤ most_uses
  pub timed_count : m.timed ≤ most_timed
  pub need_count : m.needs ≤ most_needs
  pub initial_value : (k : ℕ) → k < m.facts → m.initial k ≤ 1
  pub length_range : (k : ℕ) → k < m.steps → m.step_length k ≤ longest
  pub condition_step : (k : ℕ) → k < m.conditions → m.condition_step k < m.steps
  pub condition_fact : (k : ℕ) → k < m.conditions → m.condition_fact k < m.facts
  pub condition_span : (k : ℕ) → k < m.conditions → m.condition_from k ≤ m.condition_to k
  pub condition_end : (k : ℕ) → k < m.conditions → m.condition_to k ≤ m.step_length (m.condition_step k)
  pub condition_value : (k : ℕ) → k < m.conditions → m.condition_value k ≤ 1
  pub effect_step : (k : ℕ) → k < m.effects → m.effect_step k < m.steps
  pub effect_fact : (k : ℕ) → k < m.effects → m.effect_fact k < m.facts
  pub effect_end : (k : ℕ) → k < m.effects → m.effect_at k ≤ m.step_length (m.effect_step k)
  pub effect_value : (k : ℕ) → k < m.effects → m.effect_value k ≤ 1
  pub use_step : (k : ℕ) → k < m.uses → m.use_step k < m.steps
  pub use_level : (k : ℕ) → k < m.uses → m.use_level k < m.levels
  pub use_end : (k : ℕ) → k < m.uses → m.use_at k ≤ m.step_length (m.use_step k)
  pub timed_fact : (k : ℕ) → k < m.timed → m.timed_fact k < m.facts
  pub timed_tick : (k : ℕ) → k < m.timed → m.timed_tick k ≤ last_timed
  pub timed_value : (k : ℕ) → k < m.timed → m.timed_value k ≤ 1
  pub need_step : (k : ℕ) → k < m.needs → m.need_step k < m.steps
  pub need_level : (k : ℕ) → k < m.needs → m.need_level k < m.levels
  pub need_end : (k : ℕ) → k < m.needs → m.need_at k ≤ m.step_length (m.need_step k)
  pub need_from : (k : ℕ) → k < m.needs → lowest_level ≤ m.need_least k
  pub need_to : (k : ℕ) → k < m.needs → m.need_least k ≤ highest_level
