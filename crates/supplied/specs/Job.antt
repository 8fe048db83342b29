-- The job of two texts: "Levels run from 0 to 1,000,000,000; facts and levels not listed start as 0. The job is of edition 1, not serial,
-- without fixed steps or deadlines."
use Rattle.std.specs.Prelude.{ℕ, ◌+◌, Bool, false, cond, List, [], ◌∷◌, map, length, get_or}
use Rattle.little_endian.specs.Bytes.{sign_bias}
use Rattle.spelling.specs.Keywords.{same}
use Rattle.grammar.specs.Said.{wanted, set, reached, given, action, fact, rise, fall, stock, planned, Said, name, number, Item}
use Rattle.grammar.specs.Tree.{Word}
use Rattle.job.specs.declared.records.Level.{Level}
use Rattle.job.specs.declared.records.Step.{Step}
use Rattle.job.specs.declared.records.Goal.{Goal}
use Rattle.job.specs.declared.records.Condition.{Condition}
use Rattle.job.specs.declared.records.Effect.{Effect}
use Rattle.job.specs.declared.records.Use.{Use}
use Rattle.job.specs.Model.{Model, highest_level}
use Rattle.supplied.specs.Names.{facts, levels, names_of}
use Rattle.supplied.specs.Plan.{Line, lines_of, leading}
use Rattle.supplied.specs.Records.{conditions_in, effects_in, uses_in, by_step, goals_in}

-- a fact that init lists, and a level
unfoldable pub lists_fact : Word → Said → Bool
lists_fact v (name (fact given x) w) = same w v
lists_fact v (name (fact (wanted q) x) w) = false
lists_fact v (name (fact (set q) x) w) = false
lists_fact v (name (fact reached x) w) = false
lists_fact v (name (rise q) w) = false
lists_fact v (name (fall q) w) = false
lists_fact v (name action w) = false
lists_fact v (name stock w) = false
lists_fact v (name planned w) = false
lists_fact v (number n) = false

unfoldable pub initially : List Item → Word → ℕ
initially [] v = 0
initially (i ∷ is) v = cond (lists_fact v i.said) 1 (initially is v)

unfoldable pub lists_level : Word → Said → Bool
lists_level v (name stock w) = same w v
lists_level v (name (fact p x) w) = false
lists_level v (name (rise q) w) = false
lists_level v (name (fall q) w) = false
lists_level v (name action w) = false
lists_level v (name planned w) = false
lists_level v (number n) = false

unfoldable pub amount_of : List Item → Word → ℕ
amount_of [] v = 0
amount_of (i ∷ is) v = cond (lists_level v i.said) (leading is) (amount_of is v)

abbrev pub level_from : ℕ → Level
level_from amount = record { initial = sign_bias + amount; least = sign_bias; most = highest_level }

abbrev pub step_of : Line → Step
step_of l = record { start = l.start; length = l.duration; fixed = 0 }

-- the records of the job, table by table
pub record Tables : Type 0 where
  pub facts : List ℕ
  pub levels : List Level
  pub steps : List Step
  pub conditions : List Condition
  pub effects : List Effect
  pub uses : List Use
  pub goals : List Goal

unfoldable pub tables_of : List Item → List Line → Tables
tables_of is ls =
    let fs = names_of facts is in
    let vs = names_of levels is in
    record {
      facts = map (initially is) fs;
      levels = map (λ v. level_from (amount_of is v)) vs;
      steps = map step_of ls;
      conditions = by_step (conditions_in fs) is 0 ls;
      effects = by_step (effects_in fs) is 0 ls;
      uses = by_step (uses_in vs) is 0 ls;
      goals = goals_in fs is;
    }

-- what stands behind a table's last record
abbrev pub no_level : Level
no_level = record { initial = 0; least = 0; most = 0 }

abbrev pub no_step : Step
no_step = record { start = 0; length = 0; fixed = 0 }

abbrev pub no_condition : Condition
no_condition = record { step = 0; fact = 0; from = 0; to = 0; value = 0 }

abbrev pub no_effect : Effect
no_effect = record { step = 0; fact = 0; at = 0; value = 0 }

abbrev pub no_use : Use
no_use = record { step = 0; level = 0; at = 0; amount = 0 }

abbrev pub no_goal : Goal
no_goal = record { fact = 0; value = 0; deadline = 0 }

-- the job that tables hold
abbrev pub model_in : Tables → Model
model_in t = record {
  facts = length t.facts;
  levels = length t.levels;
  steps = length t.steps;
  conditions = length t.conditions;
  effects = length t.effects;
  uses = length t.uses;
  goals = length t.goals;
  timed = 0;
  needs = 0;
  initial = λ k. get_or t.facts k 0;
  level_initial = λ k. (get_or t.levels k no_level).initial;
  level_least = λ k. (get_or t.levels k no_level).least;
  level_most = λ k. (get_or t.levels k no_level).most;
  start = λ k. (get_or t.steps k no_step).start;
  step_length = λ k. (get_or t.steps k no_step).length;
  fixed = λ k. (get_or t.steps k no_step).fixed;
  condition_step = λ k. (get_or t.conditions k no_condition).step;
  condition_fact = λ k. (get_or t.conditions k no_condition).fact;
  condition_from = λ k. (get_or t.conditions k no_condition).from;
  condition_to = λ k. (get_or t.conditions k no_condition).to;
  condition_value = λ k. (get_or t.conditions k no_condition).value;
  effect_step = λ k. (get_or t.effects k no_effect).step;
  effect_fact = λ k. (get_or t.effects k no_effect).fact;
  effect_at = λ k. (get_or t.effects k no_effect).at;
  effect_value = λ k. (get_or t.effects k no_effect).value;
  use_step = λ k. (get_or t.uses k no_use).step;
  use_level = λ k. (get_or t.uses k no_use).level;
  use_at = λ k. (get_or t.uses k no_use).at;
  use_amount = λ k. (get_or t.uses k no_use).amount;
  goal_fact = λ k. (get_or t.goals k no_goal).fact;
  goal_value = λ k. (get_or t.goals k no_goal).value;
  goal_deadline = λ k. (get_or t.goals k no_goal).deadline;
  timed_fact = λ k. 0;
  timed_tick = λ k. 0;
  timed_value = λ k. 0;
  need_step = λ k. 0;
  need_level = λ k. 0;
  need_at = λ k. 0;
  need_least = λ k. 0;
}

-- the job of what two texts say
abbrev pub supplied_job : List Item → List Item → Model
supplied_job is plan = model_in (tables_of is (lines_of plan))
