-- Between crates: a job that a file of an edition can hold: no timed facts and no needs before their editions, counts and fields within
-- their bytes.
use Rattle.std.specs.Prelude.{ℕ, ◌≤◌, ◌<◌, ◌≡◌}
use Rattle.little_endian.specs.Bytes.{u16_values, u32_values}
use Rattle.job.specs.Layout.{latest_edition, timed_edition, needs_edition}
use Rattle.job.specs.Model.{Model}

pub record Fits (edition : ℕ) (m : Model) : Type 0 where
  pub edition_from : 1 ≤ edition
  pub edition_to : edition ≤ latest_edition
  pub timed_none : edition < timed_edition → m.timed ≡ 0
  pub needs_none : edition < needs_edition → m.needs ≡ 0
  -- the counts
  pub facts : m.facts < u16_values
  pub levels : m.levels < u16_values
  pub steps : m.steps < u16_values
  pub conditions : m.conditions < u16_values
  pub effects : m.effects < u16_values
  pub uses : m.uses < u16_values
  pub goals : m.goals < u16_values
  pub timed : m.timed < u16_values
  pub needs : m.needs < u16_values
  -- the fields
  pub initial : (k : ℕ) → k < m.facts → m.initial k < 256
  pub level_initial : (k : ℕ) → k < m.levels → m.level_initial k < u32_values
  pub level_least : (k : ℕ) → k < m.levels → m.level_least k < u32_values
  pub level_most : (k : ℕ) → k < m.levels → m.level_most k < u32_values
  pub start : (k : ℕ) → k < m.steps → m.start k < u32_values
  pub step_length : (k : ℕ) → k < m.steps → m.step_length k < u32_values
  pub fixed : (k : ℕ) → k < m.steps → m.fixed k < u16_values
  pub condition_step : (k : ℕ) → k < m.conditions → m.condition_step k < u16_values
  pub condition_fact : (k : ℕ) → k < m.conditions → m.condition_fact k < u16_values
  pub condition_from : (k : ℕ) → k < m.conditions → m.condition_from k < u32_values
  pub condition_to : (k : ℕ) → k < m.conditions → m.condition_to k < u32_values
  pub condition_value : (k : ℕ) → k < m.conditions → m.condition_value k < u16_values
  pub effect_step : (k : ℕ) → k < m.effects → m.effect_step k < u16_values
  pub effect_fact : (k : ℕ) → k < m.effects → m.effect_fact k < u16_values
  pub effect_at : (k : ℕ) → k < m.effects → m.effect_at k < u32_values
  pub effect_value : (k : ℕ) → k < m.effects → m.effect_value k < u16_values
  pub use_step : (k : ℕ) → k < m.uses → m.use_step k < u16_values
  pub use_level : (k : ℕ) → k < m.uses → m.use_level k < u16_values
  pub use_at : (k : ℕ) → k < m.uses → m.use_at k < u32_values
  pub use_amount : (k : ℕ) → k < m.uses → m.use_amount k < u32_values
  pub goal_fact : (k : ℕ) → k < m.goals → m.goal_fact k < u16_values
  pub goal_value : (k : ℕ) → k < m.goals → m.goal_value k < u16_values
  pub goal_deadline : (k : ℕ) → k < m.goals → m.goal_deadline k < u32_values
  pub timed_fact : (k : ℕ) → k < m.timed → m.timed_fact k < u16_values
  pub timed_tick : (k : ℕ) → k < m.timed → m.timed_tick k < u32_values
  pub timed_value : (k : ℕ) → k < m.timed → m.timed_value k < u16_values
  pub need_step : (k : ℕ) → k < m.needs → m.need_step k < u16_values
  pub need_level : (k : ℕ) → k < m.needs → m.need_level k < u16_values
  pub need_at : (k : ℕ) → k < m.needs → m.need_at k < u32_values
  pub need_least : (k : ℕ) → k < m.needs → m.need_least k < u32_values
