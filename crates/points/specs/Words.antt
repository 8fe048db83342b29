-- Between crates: the points of a job as words: those of its conditions, then of its effects, its timed facts behind them, then of its uses,
-- then of its needs, before they are sorted.
use Rattle.std.specs.Prelude.{ℕ, ◌+◌, ◌≤◌, ◌<◌, ◌≡◌, List, length, get_or}
use Rattle.little_endian.specs.Bytes.{u32_values}
use Rattle.job.specs.declared.layout.Counts.{Counts}
use Rattle.job.specs.Model.{Model}
use Rattle.job.specs.Clocked.{clocked}
use Rattle.point_words.specs.Words.{condition_word, effect_word, use_word, need_word}
use Rattle.points.specs.Points.{group_count}
use Rattle.timeline.specs.Words.{tick_span}
use Rattle.validity.specs.Ticks.{effect_tick, first_tick, use_tick, need_tick}

-- how many points a job has
abbrev pub point_count : Model → ℕ
point_count m = m.conditions + m.effects + m.uses + m.needs

-- a list with what the calls of a closure at the numbers below n returned, from place `from` on; before that place nothing is changed
pub record PutBy (returns : ℕ → ℕ → Type 0) (from n : ℕ) (before list : List ℕ) : Type 0 where
  pub size : length list ≡ length before
  pub each : (k : ℕ) → k < n → returns k (get_or list (from + k) 0)
  pub kept : (p : ℕ) → p < from → get_or list p 0 ≡ get_or before p 0

-- a list with the words of n points from place `from` on, whose ticks are within the span; before that place nothing is changed
pub record WordsPut (from n : ℕ) (word tick : ℕ → ℕ) (before list : List ℕ) : Type 0 where
  pub size : length list ≡ length before
  pub each : (k : ℕ) → k < n → (get_or list (from + k) 0 ≡ word k) × (tick k < tick_span)
  pub kept : (p : ℕ) → p < from → get_or list p 0 ≡ get_or before p 0

-- the words of a job's conditions in the first places, those of its effects in the next ones, and those of its uses and its needs behind them
abbrev pub ConditionsPut : Model → (ℕ → ℕ) → List ℕ → List ℕ → Type 0
ConditionsPut m x = WordsPut 0 m.conditions (condition_word m x) (first_tick m x)

abbrev pub EffectsPut : Model → (ℕ → ℕ) → List ℕ → List ℕ → Type 0
EffectsPut m x = WordsPut m.conditions m.effects (effect_word m x) (effect_tick m x)

-- those of its timed facts behind its effects
abbrev pub TimedPut : Model → (ℕ → ℕ) → List ℕ → List ℕ → Type 0
TimedPut m x =
    WordsPut (m.conditions + m.effects) m.timed (λ j. effect_word (clocked m) x (m.effects + j)) (λ j. effect_tick (clocked m) x (m.effects + j))

abbrev pub UsesPut : Model → (ℕ → ℕ) → List ℕ → List ℕ → Type 0
UsesPut m x = WordsPut (m.conditions + m.effects) m.uses (use_word m x) (use_tick m x)

abbrev pub NeedsPut : Model → (ℕ → ℕ) → List ℕ → List ℕ → Type 0
NeedsPut m x = WordsPut (m.conditions + m.effects + m.uses) m.needs (need_word m x) (need_tick m x)

-- all of them
pub record WordsListed (m : Model) (x : ℕ → ℕ) (list : List ℕ) : Type 0 where
  pub conditions : (c : ℕ) → c < m.conditions → (get_or list c 0 ≡ condition_word m x c) × (first_tick m x c < tick_span)
  pub effects : (e : ℕ) → e < m.effects → (get_or list (m.conditions + e) 0 ≡ effect_word m x e) × (effect_tick m x e < tick_span)
  pub uses : (u : ℕ) → u < m.uses → (get_or list (m.conditions + m.effects + u) 0 ≡ use_word m x u) × (use_tick m x u < tick_span)
  pub needs :
      (n : ℕ) → n < m.needs
      → (get_or list (m.conditions + m.effects + m.uses + n) 0 ≡ need_word m x n) × (need_tick m x n < tick_span)

-- lists long enough for a job's points, for sorting them, and for the beginnings of their groups and one more
pub record PointRoom (m : Model) (spare points begins : List ℕ) : Type 0 where
  pub listed : point_count m ≤ length points
  pub sorted : point_count m ≤ length spare
  pub grouped : group_count m + 2 ≤ length begins

-- how many points and groups a small job has at most
abbrev pub few_points : ℕ
few_points = 192

abbrev pub few_groups : ℕ
few_groups = 96

-- the counts of a small job
pub record Small (n : Counts) : Type 0 where
  pub points : n.conditions + n.effects + n.timed + n.uses + n.needs ≤ few_points
  pub groups : n.facts + n.facts + n.levels + n.levels ≤ few_groups

-- so much room is enough for a job's points, and for the beginnings of their groups and one more; and it lies in memory
pub record Room (n : Counts) (points begins : ℕ) : Type 0 where
  pub listed : n.conditions + n.effects + n.timed + n.uses + n.needs ≤ points
  pub grouped : n.facts + n.facts + n.levels + n.levels + 2 ≤ begins
  pub fits : (points < u32_values) × (begins < u32_values)
