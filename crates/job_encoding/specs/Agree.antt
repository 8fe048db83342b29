-- When two jobs say the same: the counts, and each record that is counted.
use Rattle.std.specs.Prelude.{ℕ, ◌<◌, ◌≡◌}
use Rattle.job.specs.Model.{Model, level_of, step_of, condition_of, effect_of, use_of, goal_of, timed_of, need_of}

pub record Agree (a b : Model) : Type 0 where
  pub facts : a.facts ≡ b.facts
  pub levels : a.levels ≡ b.levels
  pub steps : a.steps ≡ b.steps
  pub conditions : a.conditions ≡ b.conditions
  pub effects : a.effects ≡ b.effects
  pub uses : a.uses ≡ b.uses
  pub goals : a.goals ≡ b.goals
  pub timed : a.timed ≡ b.timed
  pub needs : a.needs ≡ b.needs
  pub each_fact : (k : ℕ) → k < b.facts → a.initial k ≡ b.initial k
  pub each_level : (k : ℕ) → k < b.levels → level_of a k ≡ level_of b k
  pub each_step : (k : ℕ) → k < b.steps → step_of a k ≡ step_of b k
  pub each_condition : (k : ℕ) → k < b.conditions → condition_of a k ≡ condition_of b k
  pub each_effect : (k : ℕ) → k < b.effects → effect_of a k ≡ effect_of b k
  pub each_use : (k : ℕ) → k < b.uses → use_of a k ≡ use_of b k
  pub each_goal : (k : ℕ) → k < b.goals → goal_of a k ≡ goal_of b k
  pub each_timed : (k : ℕ) → k < b.timed → timed_of a k ≡ timed_of b k
  pub each_need : (k : ℕ) → k < b.needs → need_of a k ≡ need_of b k
