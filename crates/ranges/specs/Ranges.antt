-- The ranges of "The job file", record by record, in table order.
use Rattle.std.specs.Prelude.{ℕ, Bool, ◌&&◌, ◌||◌, not, ltb, leb, eqb}
use Rattle.job.specs.declared.layout.Table.{Table}
use Rattle.job.specs.declared.layout.Table.TheVariants.{Facts, Levels, Steps, Conditions, Effects, Uses, Goals, TimedFacts, Needs}
use Rattle.little_endian.specs.Bytes.{sign_bias}
use Rattle.job.specs.Model.{Model, last_start, longest, last_deadline, no_deadline, last_timed, lowest_level, highest_level, lowest_amount, highest_amount}

-- a number plus sign_bias is within ±1,000,000,000
abbrev pub level_in_range : ℕ → Bool
level_in_range n = leb lowest_level n && leb n highest_level

-- Fact: 0 or 1
unfoldable pub fact_ok : Model → ℕ → Bool
fact_ok m k = leb (m.initial k) 1

-- Level: each number within ±1,000,000,000, least ≤ initial ≤ most
unfoldable pub level_ok : Model → ℕ → Bool
level_ok m k =
    level_in_range (m.level_initial k) && level_in_range (m.level_least k) && level_in_range (m.level_most k)
    && leb (m.level_least k) (m.level_initial k)
    && leb (m.level_initial k) (m.level_most k)

-- Step: start to 1,000,000, length to 100,000, fixed mark 0 or 1
unfoldable pub step_ok : Model → ℕ → Bool
step_ok m k = leb (m.start k) last_start && leb (m.step_length k) longest && leb (m.fixed k) 1

-- Condition: a step and a fact that are counted, from ≤ to ≤ the step's length, value 0 or 1
unfoldable pub condition_ok : Model → ℕ → Bool
condition_ok m k =
    ltb (m.condition_step k) m.steps && ltb (m.condition_fact k) m.facts
    && leb (m.condition_from k) (m.condition_to k)
    && leb (m.condition_to k) (m.step_length (m.condition_step k))
    && leb (m.condition_value k) 1

-- Effect: a step and a fact that are counted, at ≤ the step's length, value 0 or 1
unfoldable pub effect_ok : Model → ℕ → Bool
effect_ok m k =
    ltb (m.effect_step k) m.steps && ltb (m.effect_fact k) m.facts
    && leb (m.effect_at k) (m.step_length (m.effect_step k))
    && leb (m.effect_value k) 1

-- Use: a step and a level that are counted, at ≤ the step's length, amount not 0 and within ±1,000,000
unfoldable pub use_ok : Model → ℕ → Bool
use_ok m k =
    ltb (m.use_step k) m.steps && ltb (m.use_level k) m.levels
    && leb (m.use_at k) (m.step_length (m.use_step k))
    && leb lowest_amount (m.use_amount k)
    && leb (m.use_amount k) highest_amount
    && not (eqb (m.use_amount k) sign_bias)

-- Goal: a fact that is counted, value 0 or 1, a deadline to 1,100,000 or none
unfoldable pub goal_ok : Model → ℕ → Bool
goal_ok m k =
    ltb (m.goal_fact k) m.facts && leb (m.goal_value k) 1
    && (leb (m.goal_deadline k) last_deadline || eqb (m.goal_deadline k) no_deadline)

-- Timed fact: a fact that is counted, a tick to 1,100,000, value 0 or 1
unfoldable pub timed_ok : Model → ℕ → Bool
timed_ok m k = ltb (m.timed_fact k) m.facts && leb (m.timed_tick k) last_timed && leb (m.timed_value k) 1

-- Need: a step and a level that are counted, at ≤ the step's length, least within ±1,000,000,000
unfoldable pub need_ok : Model → ℕ → Bool
need_ok m k =
    ltb (m.need_step k) m.steps && ltb (m.need_level k) m.levels
    && leb (m.need_at k) (m.step_length (m.need_step k))
    && level_in_range (m.need_least k)

-- how many records a table has
abbrev pub count_in : Model → Table → ℕ
count_in m Facts = m.facts
count_in m Levels = m.levels
count_in m Steps = m.steps
count_in m Conditions = m.conditions
count_in m Effects = m.effects
count_in m Uses = m.uses
count_in m Goals = m.goals
count_in m TimedFacts = m.timed
count_in m Needs = m.needs

-- whether a record of a table keeps its ranges and names what exists
abbrev pub record_ok : Model → Table → ℕ → Bool
record_ok m Facts k = fact_ok m k
record_ok m Levels k = level_ok m k
record_ok m Steps k = step_ok m k
record_ok m Conditions k = condition_ok m k
record_ok m Effects k = effect_ok m k
record_ok m Uses k = use_ok m k
record_ok m Goals k = goal_ok m k
record_ok m TimedFacts k = timed_ok m k
record_ok m Needs k = need_ok m k

-- whether it does not
abbrev pub record_broken : Model → Table → ℕ → Bool
record_broken m t k = not (record_ok m t k)
