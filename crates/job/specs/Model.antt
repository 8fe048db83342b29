-- The job that a file holds, counts and functions of an index. Its meaning is stated over this record alone.
use Rattle.std.specs.Prelude.{ℕ, ◌+◌, ◌*◌, ◌-◌, List}
use Rattle.little_endian.specs.Bytes.{sign_bias, byte_at, u16_at, u32_at, biased_at}
use Rattle.job.specs.declared.layout.Job.{Job}
use Rattle.job.specs.declared.records.Level.{Level}
use Rattle.job.specs.declared.records.Step.{Step}
use Rattle.job.specs.declared.records.Goal.{Goal}
use Rattle.job.specs.declared.records.Condition.{Condition}
use Rattle.job.specs.declared.records.Effect.{Effect}
use Rattle.job.specs.declared.records.Use.{Use}
use Rattle.job.specs.declared.records.TimedFact.{TimedFact}
use Rattle.job.specs.declared.records.Need.{Need}
use Rattle.job.specs.Layout.{fact_width, level_width, step_width, condition_width, effect_width, use_width, goal_width, timed_width, need_width, job_of}

-- a step's highest start and length
abbrev pub last_start : ℕ
last_start = 1000000

abbrev pub longest : ℕ
longest = 100000

-- a goal's highest deadline, and that of a goal that has none
abbrev pub last_deadline : ℕ
last_deadline = 1100000

abbrev pub no_deadline : ℕ
no_deadline = 4294967295

-- a timed fact's highest tick
abbrev pub last_timed : ℕ
last_timed = 1100000

-- a level's numbers and a need's least are within ±1,000,000,000, a use's amount within ±1,000,000: so biased
abbrev pub lowest_level : ℕ
lowest_level = sign_bias - 1000000000

abbrev pub highest_level : ℕ
highest_level = sign_bias + 1000000000

abbrev pub lowest_amount : ℕ
lowest_amount = sign_bias - 1000000

abbrev pub highest_amount : ℕ
highest_amount = sign_bias + 1000000

pub record Model : Type 0 where
  -- how many of each there are
  pub facts : ℕ
  pub levels : ℕ
  pub steps : ℕ
  pub conditions : ℕ
  pub effects : ℕ
  pub uses : ℕ
  pub goals : ℕ
  pub timed : ℕ
  pub needs : ℕ
  -- a fact's initial value
  pub initial : ℕ → ℕ
  -- a level's numbers, each plus sign_bias
  pub level_initial : ℕ → ℕ
  pub level_least : ℕ → ℕ
  pub level_most : ℕ → ℕ
  -- a step's written start, its length and its fixed mark
  pub start : ℕ → ℕ
  pub step_length : ℕ → ℕ
  pub fixed : ℕ → ℕ
  pub condition_step : ℕ → ℕ
  pub condition_fact : ℕ → ℕ
  pub condition_from : ℕ → ℕ
  pub condition_to : ℕ → ℕ
  pub condition_value : ℕ → ℕ
  pub effect_step : ℕ → ℕ
  pub effect_fact : ℕ → ℕ
  pub effect_at : ℕ → ℕ
  pub effect_value : ℕ → ℕ
  -- a use's amount plus sign_bias
  pub use_step : ℕ → ℕ
  pub use_level : ℕ → ℕ
  pub use_at : ℕ → ℕ
  pub use_amount : ℕ → ℕ
  -- a goal's deadline, or no_deadline
  pub goal_fact : ℕ → ℕ
  pub goal_value : ℕ → ℕ
  pub goal_deadline : ℕ → ℕ
  -- what the clock sets, and at which tick
  pub timed_fact : ℕ → ℕ
  pub timed_tick : ℕ → ℕ
  pub timed_value : ℕ → ℕ
  -- what a need's level must reach, plus sign_bias
  pub need_step : ℕ → ℕ
  pub need_level : ℕ → ℕ
  pub need_at : ℕ → ℕ
  pub need_least : ℕ → ℕ

-- the job in bytes whose tables lie as given: record k of a table of width w starts at w * k
abbrev pub view : Job → List ℕ → Model
view j s = record {
  facts = j.count.facts;
  levels = j.count.levels;
  steps = j.count.steps;
  conditions = j.count.conditions;
  effects = j.count.effects;
  uses = j.count.uses;
  goals = j.count.goals;
  timed = j.count.timed;
  needs = j.count.needs;
  initial = λ k. byte_at s (j.at.facts + fact_width * k);
  level_initial = λ k. biased_at s (j.at.levels + level_width * k);
  level_least = λ k. biased_at s (j.at.levels + level_width * k + 4);
  level_most = λ k. biased_at s (j.at.levels + level_width * k + 8);
  start = λ k. u32_at s (j.at.steps + step_width * k);
  step_length = λ k. u32_at s (j.at.steps + step_width * k + 4);
  fixed = λ k. u16_at s (j.at.steps + step_width * k + 8);
  condition_step = λ k. u16_at s (j.at.conditions + condition_width * k);
  condition_fact = λ k. u16_at s (j.at.conditions + condition_width * k + 2);
  condition_from = λ k. u32_at s (j.at.conditions + condition_width * k + 4);
  condition_to = λ k. u32_at s (j.at.conditions + condition_width * k + 8);
  condition_value = λ k. u16_at s (j.at.conditions + condition_width * k + 12);
  effect_step = λ k. u16_at s (j.at.effects + effect_width * k);
  effect_fact = λ k. u16_at s (j.at.effects + effect_width * k + 2);
  effect_at = λ k. u32_at s (j.at.effects + effect_width * k + 4);
  effect_value = λ k. u16_at s (j.at.effects + effect_width * k + 8);
  use_step = λ k. u16_at s (j.at.uses + use_width * k);
  use_level = λ k. u16_at s (j.at.uses + use_width * k + 2);
  use_at = λ k. u32_at s (j.at.uses + use_width * k + 4);
  use_amount = λ k. biased_at s (j.at.uses + use_width * k + 8);
  goal_fact = λ k. u16_at s (j.at.goals + goal_width * k);
  goal_value = λ k. u16_at s (j.at.goals + goal_width * k + 2);
  goal_deadline = λ k. u32_at s (j.at.goals + goal_width * k + 4);
  timed_fact = λ k. u16_at s (j.at.timed + timed_width * k);
  timed_tick = λ k. u32_at s (j.at.timed + timed_width * k + 2);
  timed_value = λ k. u16_at s (j.at.timed + timed_width * k + 6);
  need_step = λ k. u16_at s (j.at.needs + need_width * k);
  need_level = λ k. u16_at s (j.at.needs + need_width * k + 2);
  need_at = λ k. u32_at s (j.at.needs + need_width * k + 4);
  need_least = λ k. biased_at s (j.at.needs + need_width * k + 8);
}

-- the job that a file holds
abbrev pub model_of : List ℕ → Model
model_of s = view (job_of s) s

-- a level's record, a step's and a goal's
abbrev pub level_of : Model → ℕ → Level
level_of m k = record { initial = m.level_initial k; least = m.level_least k; most = m.level_most k }

abbrev pub step_of : Model → ℕ → Step
step_of m k = record { start = m.start k; length = m.step_length k; fixed = m.fixed k }

abbrev pub goal_of : Model → ℕ → Goal
goal_of m k = record { fact = m.goal_fact k; value = m.goal_value k; deadline = m.goal_deadline k }

-- a condition's, an effect's and a use's
abbrev pub condition_of : Model → ℕ → Condition
condition_of m k = record {
  step = m.condition_step k;
  fact = m.condition_fact k;
  from = m.condition_from k;
  to = m.condition_to k;
  value = m.condition_value k;
}

abbrev pub effect_of : Model → ℕ → Effect
effect_of m k = record { step = m.effect_step k; fact = m.effect_fact k; at = m.effect_at k; value = m.effect_value k }

abbrev pub use_of : Model → ℕ → Use
use_of m k = record { step = m.use_step k; level = m.use_level k; at = m.use_at k; amount = m.use_amount k }

-- a timed fact's
abbrev pub timed_of : Model → ℕ → TimedFact
timed_of m k = record { fact = m.timed_fact k; tick = m.timed_tick k; value = m.timed_value k }

-- a need's
abbrev pub need_of : Model → ℕ → Need
need_of m k = record { step = m.need_step k; level = m.need_level k; at = m.need_at k; least = m.need_least k }
