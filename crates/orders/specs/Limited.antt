-- "Orders against it become earliest limits or latest starts", in plain words: which points of a step lie after a timed fact, which before,
-- and that the tightest counts. x is the schedule by whose ticks they are found.
use Rattle.std.specs.Prelude.{ℕ, ◌+◌, ◌≤◌, ◌<◌, ◌≡◌}
use Rattle.job.specs.Model.{Model, no_deadline}
use Rattle.job.specs.Clocked.{clocked}
use Rattle.order_file.specs.Contents.{no_latest}
use Rattle.orders.specs.Supporter.{ConditionLinkedTo, GoalLinkedTo}

-- effect e of step k, so far into it, and timed fact j at tick T set one fact both ways
pub record EffectOpposed (m : Model) (k point T e j : ℕ) : Type 0 where
  pub known : (e < m.effects) × (j < m.timed)
  pub of_step : m.effect_step e ≡ k
  pub at : m.effect_at e ≡ point
  pub tick : m.timed_tick j ≡ T
  pub same_fact : m.effect_fact e ≡ m.timed_fact j
  pub other_value : m.effect_value e ≡ m.timed_value j → ⊥

-- condition c of step k wants another value of its fact than timed fact j gives it at tick T
pub record ConditionOpposed (m : Model) (k T c j : ℕ) : Type 0 where
  pub known : (c < m.conditions) × (j < m.timed)
  pub of_step : m.condition_step c ≡ k
  pub tick : m.timed_tick j ≡ T
  pub same_fact : m.condition_fact c ≡ m.timed_fact j
  pub other_value : m.condition_value c ≡ m.timed_value j → ⊥

-- timed fact j at tick T supports condition c of step k
pub record ConditionTimed (m : Model) (x : ℕ → ℕ) (k T c j : ℕ) : Type 0 where
  pub known : (c < m.conditions) × (j < m.timed)
  pub of_step : m.condition_step c ≡ k
  pub tick : m.timed_tick j ≡ T
  pub linked : ConditionLinkedTo (clocked m) x c (m.effects + j)

-- a point of step k, so far into it, strictly after tick T: an opposing effect, or the first tick of a condition, opposed or supported
pub data PointAfter (m : Model) (x : ℕ → ℕ) (k point T : ℕ) : Type 0 where
  effect_after : (e j : ℕ) → EffectOpposed m k point T e j → T < x k + point → PointAfter m x k point T
  condition_after :
      (c j : ℕ) → ConditionOpposed m k T c j → m.condition_from c ≡ point → T < x k + point → PointAfter m x k point T
  supported_after : (c j : ℕ) → ConditionTimed m x k T c j → m.condition_from c ≡ point → PointAfter m x k point T

-- one strictly before it: an opposing effect, or the last tick of an opposed condition
pub data PointBefore (m : Model) (x : ℕ → ℕ) (k point T : ℕ) : Type 0 where
  effect_before : (e j : ℕ) → EffectOpposed m k point T e j → x k + point < T → PointBefore m x k point T
  condition_before :
      (c j : ℕ) → ConditionOpposed m k T c j → m.condition_to c ≡ point → x k + point < T → PointBefore m x k point T

-- goal g has a deadline, and effect e of step k, so far into it, supports it
pub record GoalDue (m : Model) (x : ℕ → ℕ) (k point g e : ℕ) : Type 0 where
  pub known : (g < m.goals) × (e < m.effects)
  pub deadline : m.goal_deadline g ≡ no_deadline → ⊥
  pub of_step : m.effect_step e ≡ k
  pub at : m.effect_at e ≡ point
  pub linked : GoalLinkedTo (clocked m) x g e

-- limits and latest starts of the steps that are not fixed, each as tight as it must be and no tighter
pub record Limited (m : Model) (x limit latest : ℕ → ℕ) : Type 0 where
  pub fixed : (k : ℕ) → k < m.steps → m.fixed k ≡ 1 → (limit k ≡ m.start k) × (latest k ≡ m.start k)
  pub after : (k point T : ℕ) → k < m.steps → (m.fixed k ≡ 1 → ⊥) → PointAfter m x k point T → T + 1 ≤ limit k + point
  pub no_later :
      (k bound : ℕ) → k < m.steps → (m.fixed k ≡ 1 → ⊥) → ((point T : ℕ) → PointAfter m x k point T → T + 1 ≤ bound + point)
      → limit k ≤ bound
  pub before : (k point T : ℕ) → k < m.steps → (m.fixed k ≡ 1 → ⊥) → PointBefore m x k point T → latest k + point + 1 ≤ T
  pub due :
      (k point g e : ℕ) → k < m.steps → (m.fixed k ≡ 1 → ⊥) → GoalDue m x k point g e → latest k + point ≤ m.goal_deadline g
  pub no_earlier :
      (k bound : ℕ) → k < m.steps → (m.fixed k ≡ 1 → ⊥) → bound ≤ no_latest
      → ((point T : ℕ) → PointBefore m x k point T → bound + point + 1 ≤ T)
      → ((point g e : ℕ) → GoalDue m x k point g e → bound + point ≤ m.goal_deadline g)
      → bound ≤ latest k
