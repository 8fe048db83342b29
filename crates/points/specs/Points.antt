-- Between crates: what is known of a job's points before they are walked along: the setters of each fact, its conditions, and the uses and the
-- needs of each level.
use Rattle.std.specs.Prelude.{ℕ, ◌+◌, ◌≤◌, ◌<◌, ◌≡◌, List, length, get_or}
use Rattle.job.specs.Layout.{most_facts, most_levels, most_steps, most_conditions, most_uses, most_needs}
use Rattle.job.specs.Model.{Model}
use Rattle.job.specs.Clocked.{most_setters}
use Rattle.timeline.specs.Placed.{Placed}
use Rattle.validity.specs.Ticks.{effect_tick, first_tick, use_tick, need_tick}

-- what the points of a job rely on, its timed facts among its effects: what refusals 1 to 6 leave of it
pub record ClockedRange (m : Model) : Type 0 where
  pub fact_count : m.facts ≤ most_facts
  pub level_count : m.levels ≤ most_levels
  pub step_count : m.steps ≤ most_steps
  pub condition_count : m.conditions ≤ most_conditions
  pub effect_count : m.effects ≤ most_setters
  pub use_count : m.uses ≤ most_uses
  pub need_count : m.needs ≤ most_needs
  pub initial_value : (k : ℕ) → k < m.facts → m.initial k ≤ 1
  pub condition_step : (k : ℕ) → k < m.conditions → m.condition_step k < m.steps
  pub condition_fact : (k : ℕ) → k < m.conditions → m.condition_fact k < m.facts
  pub condition_value : (k : ℕ) → k < m.conditions → m.condition_value k ≤ 1
  pub effect_step : (k : ℕ) → k < m.effects → m.effect_step k ≤ m.steps
  pub effect_fact : (k : ℕ) → k < m.effects → m.effect_fact k < m.facts
  pub effect_value : (k : ℕ) → k < m.effects → m.effect_value k ≤ 1
  pub use_step : (k : ℕ) → k < m.uses → m.use_step k < m.steps
  pub use_level : (k : ℕ) → k < m.uses → m.use_level k < m.levels
  pub need_step : (k : ℕ) → k < m.needs → m.need_step k < m.steps
  pub need_level : (k : ℕ) → k < m.needs → m.need_level k < m.levels

-- an effect on fact f, a condition on fact f, a use of level l, a need of level l
abbrev pub Setter : Model → ℕ → ℕ → Type 0
Setter m f e = (e < m.effects) × (m.effect_fact e ≡ f)

abbrev pub Wanting : Model → ℕ → ℕ → Type 0
Wanting m f c = (c < m.conditions) × (m.condition_fact c ≡ f)

abbrev pub Using : Model → ℕ → ℕ → Type 0
Using m l u = (u < m.uses) × (m.use_level u ≡ l)

abbrev pub Needing : Model → ℕ → ℕ → Type 0
Needing m l n = (n < m.needs) × (m.need_level n ≡ l)

-- the group of a fact's conditions, of a level's uses and its needs, and how many groups there are; that of a fact's setters has the fact's number
abbrev pub wanted_group : Model → ℕ → ℕ
wanted_group m f = m.facts + f

abbrev pub used_group : Model → ℕ → ℕ
used_group m l = m.facts + m.facts + l

abbrev pub needed_group : Model → ℕ → ℕ
needed_group m l = m.facts + m.facts + m.levels + l

abbrev pub group_count : Model → ℕ
group_count m = m.facts + m.facts + m.levels + m.levels

-- the points of a schedule x, group by group in the order of their ticks, and where each group begins
pub record PointsKnown (m : Model) (x : ℕ → ℕ) (points begins : List ℕ) : Type 0 where
  pub room : group_count m < length begins
  pub setters :
      (f : ℕ) → f < m.facts
      → Placed (Setter m f) (effect_tick m x) m.effect_value m.effect_step points (get_or begins f 0) (get_or begins (f + 1) 0)
  pub wanted :
      (f : ℕ) → f < m.facts
      → Placed (Wanting m f) (first_tick m x) m.condition_value m.condition_step points (get_or begins (wanted_group m f) 0)
      (get_or begins (wanted_group m f + 1) 0)
  pub used :
      (l : ℕ) → l < m.levels
      → Placed (Using m l) (use_tick m x) (λ _. 0) m.use_step points (get_or begins (used_group m l) 0) (get_or begins (used_group m l + 1) 0)
  pub needed :
      (l : ℕ) → l < m.levels
      → Placed (Needing m l) (need_tick m x) (λ _. 0) m.need_step points (get_or begins (needed_group m l) 0) (get_or begins (needed_group m l + 1) 0)

-- no two effects give a fact different values at one tick: what refusals 7 and 10 leave
abbrev pub OneValue : Model → (ℕ → ℕ) → Type 0
OneValue m x =
    (e f : ℕ) → e < m.effects → f < m.effects → m.effect_fact e ≡ m.effect_fact f → effect_tick m x e ≡ effect_tick m x f
    → m.effect_value e ≡ m.effect_value f
