-- "A timed fact acts as an effect of another step, but cannot move": the job with its timed facts behind its effects, as effects of the
-- clock. The clock has the number after the last step's, and starts at 0 in every schedule.
use Rattle.std.specs.Prelude.{ℕ, ◌+◌, ◌-◌, ◌≤◌, ◌<◌, ◌≡◌, cond, ◌⊎◌, ltb}
use Rattle.little_endian.specs.Bytes.{sign_bias}
use Rattle.job.specs.Layout.{most_facts, most_levels, most_steps, most_conditions, most_effects, most_uses, most_goals, most_timed, most_needs}
use Rattle.job.specs.Model.{Model, last_start, longest, last_deadline, no_deadline, last_timed, lowest_level, highest_level, lowest_amount, highest_amount}

-- what is said of an effect by its number, and of a timed fact by its number behind all effects
abbrev pub behind : Model → (ℕ → ℕ) → (ℕ → ℕ) → ℕ → ℕ
behind m ofEffect ofTimed e = cond (ltb e m.effects) (ofEffect e) (ofTimed (e - m.effects))

abbrev pub clocked : Model → Model
clocked m = record {
  facts = m.facts;
  levels = m.levels;
  steps = m.steps;
  conditions = m.conditions;
  effects = m.effects + m.timed;
  uses = m.uses;
  goals = m.goals;
  timed = 0;
  needs = m.needs;
  initial = m.initial;
  level_initial = m.level_initial;
  level_least = m.level_least;
  level_most = m.level_most;
  start = m.start;
  step_length = m.step_length;
  fixed = m.fixed;
  condition_step = m.condition_step;
  condition_fact = m.condition_fact;
  condition_from = m.condition_from;
  condition_to = m.condition_to;
  condition_value = m.condition_value;
  effect_step = behind m m.effect_step (λ _. m.steps);
  effect_fact = behind m m.effect_fact m.timed_fact;
  effect_at = behind m m.effect_at m.timed_tick;
  effect_value = behind m m.effect_value m.timed_value;
  use_step = m.use_step;
  use_level = m.use_level;
  use_at = m.use_at;
  use_amount = m.use_amount;
  goal_fact = m.goal_fact;
  goal_value = m.goal_value;
  goal_deadline = m.goal_deadline;
  timed_fact = m.timed_fact;
  timed_tick = m.timed_tick;
  timed_value = m.timed_value;
  need_step = m.need_step;
  need_level = m.need_level;
  need_at = m.need_at;
  need_least = m.need_least;
}

-- starts with that of the clock
abbrev pub with_clock : Model → (ℕ → ℕ) → ℕ → ℕ
with_clock m x k = cond (ltb k m.steps) (x k) 0

-- how many effects and timed facts there are at most
abbrev pub most_setters : ℕ
most_setters = most_effects + most_timed

-- what holds of a well-formed job with its timed facts among its effects
pub record ClockedForm (m : Model) : Type 0 where
  pub fact_count : m.facts ≤ most_facts
  pub level_count : m.levels ≤ most_levels
  pub step_count : m.steps ≤ most_steps
  pub condition_count : m.conditions ≤ most_conditions
  pub effect_count : m.effects ≤ most_setters
  pub use_count : m.uses ≤ most_uses
  pub goal_count : m.goals ≤ most_goals
  pub need_count : m.needs ≤ most_needs
  pub initial_value : (k : ℕ) → k < m.facts → m.initial k ≤ 1
  pub level_from : (k : ℕ) → k < m.levels → lowest_level ≤ m.level_least k
  pub level_low : (k : ℕ) → k < m.levels → m.level_least k ≤ m.level_initial k
  pub level_high : (k : ℕ) → k < m.levels → m.level_initial k ≤ m.level_most k
  pub level_to : (k : ℕ) → k < m.levels → m.level_most k ≤ highest_level
  pub start_range : (k : ℕ) → k < m.steps → m.start k ≤ last_start
  pub length_range : (k : ℕ) → k < m.steps → m.step_length k ≤ longest
  pub fixed_mark : (k : ℕ) → k < m.steps → m.fixed k ≤ 1
  pub condition_step : (k : ℕ) → k < m.conditions → m.condition_step k < m.steps
  pub condition_fact : (k : ℕ) → k < m.conditions → m.condition_fact k < m.facts
  pub condition_span : (k : ℕ) → k < m.conditions → m.condition_from k ≤ m.condition_to k
  pub condition_end : (k : ℕ) → k < m.conditions → m.condition_to k ≤ m.step_length (m.condition_step k)
  pub condition_value : (k : ℕ) → k < m.conditions → m.condition_value k ≤ 1
  -- an effect is of a step or of the clock
  pub effect_step : (k : ℕ) → k < m.effects → m.effect_step k ≤ m.steps
  pub effect_fact : (k : ℕ) → k < m.effects → m.effect_fact k < m.facts
  pub effect_near : (k : ℕ) → k < m.effects → m.effect_at k ≤ last_timed
  pub step_effect_near : (k : ℕ) → k < m.effects → m.effect_step k < m.steps → m.effect_at k ≤ longest
  pub effect_value : (k : ℕ) → k < m.effects → m.effect_value k ≤ 1
  pub use_step : (k : ℕ) → k < m.uses → m.use_step k < m.steps
  pub use_level : (k : ℕ) → k < m.uses → m.use_level k < m.levels
  pub use_end : (k : ℕ) → k < m.uses → m.use_at k ≤ m.step_length (m.use_step k)
  pub use_from : (k : ℕ) → k < m.uses → lowest_amount ≤ m.use_amount k
  pub use_to : (k : ℕ) → k < m.uses → m.use_amount k ≤ highest_amount
  pub use_not_zero : (k : ℕ) → k < m.uses → m.use_amount k ≡ sign_bias → ⊥
  pub goal_fact : (k : ℕ) → k < m.goals → m.goal_fact k < m.facts
  pub goal_value : (k : ℕ) → k < m.goals → m.goal_value k ≤ 1
  pub goal_deadline : (k : ℕ) → k < m.goals → (m.goal_deadline k ≤ last_deadline) ⊎ (m.goal_deadline k ≡ no_deadline)
  pub need_step : (k : ℕ) → k < m.needs → m.need_step k < m.steps
  pub need_level : (k : ℕ) → k < m.needs → m.need_level k < m.levels
  pub need_end : (k : ℕ) → k < m.needs → m.need_at k ≤ m.step_length (m.need_step k)
  pub need_from : (k : ℕ) → k < m.needs → lowest_level ≤ m.need_least k
  pub need_to : (k : ℕ) → k < m.needs → m.need_least k ≤ highest_level
  -- neither a step nor the clock sets a fact both ways at one tick
  pub one_way :
      (e f : ℕ) → e < m.effects → f < m.effects → m.effect_step e ≡ m.effect_step f → m.effect_fact e ≡ m.effect_fact f
      → m.effect_at e ≡ m.effect_at f
      → m.effect_value e ≡ m.effect_value f
  pub one_use :
      (u v : ℕ) → u < m.uses → v < m.uses → m.use_step u ≡ m.use_step v → m.use_level u ≡ m.use_level v → m.use_at u ≡ m.use_at v
      → u ≡ v
  pub keeps_own :
      (e c : ℕ) → e < m.effects → c < m.conditions → m.effect_step e ≡ m.condition_step c → m.effect_fact e ≡ m.condition_fact c
      → m.condition_from c ≤ m.effect_at e
      → m.effect_at e < m.condition_to c
      → m.effect_value e ≡ m.condition_value c
