-- What a timing ends with: for each fact the value of the effect at the latest tick, for each level its amount after all uses.
use Rattle.std.specs.Prelude.{ℕ, ◌+◌, ◌-◌, ◌≤◌, ◌<◌, ◌≡◌, cond, eqb}
use Rattle.laws.specs.Fold.{sum}
use Rattle.little_endian.specs.Bytes.{sign_bias}
use Rattle.job.specs.Model.{Model}
use Rattle.validity.specs.Ticks.{effect_tick}
use Rattle.validity.specs.Seen.{seen, after_all}
use Rattle.validity.specs.Levels.{rises_before, falls_before, after_uses}

-- the value of a fact after all effects, or the initial value if no effect sets it
abbrev pub end_value : Model → (ℕ → ℕ) → ℕ → ℕ
end_value m x fact = seen m x fact (after_all m x)

-- a level's initial amount plus the amounts of all its uses, plus `sign_bias`. In a sound timing nothing is cut off: the level ends
-- at its least or above, so the falls are at most the rest (`EndsWith.levels`)
abbrev pub end_level : Model → (ℕ → ℕ) → ℕ → ℕ
end_level m x level = m.level_initial level + rises_before m x level (after_uses m x) - falls_before m x level (after_uses m x)

-- two schedules end alike
pub record SameEnd (m : Model) (x y : ℕ → ℕ) : Type 0 where
  pub facts : (f : ℕ) → f < m.facts → end_value m x f ≡ end_value m y f
  pub levels : (l : ℕ) → l < m.levels → end_level m x l ≡ end_level m y l

-- effect e is on the fact, at the latest tick of any
pub record SetsLast (m : Model) (x : ℕ → ℕ) (fact e : ℕ) : Type 0 where
  pub known : e < m.effects
  pub on_fact : m.effect_fact e ≡ fact
  pub latest : (f : ℕ) → f < m.effects → m.effect_fact f ≡ fact → effect_tick m x f ≤ effect_tick m x e

-- a number for each use, summed over all uses of a level
abbrev pub over_uses : Model → ℕ → (ℕ → ℕ) → ℕ
over_uses m level of = sum m.uses (λ u. cond (eqb (m.use_level u) level) (of u) 0)

-- "A timing ends with ..", of a sound timing
pub record EndsWith (m : Model) (x : ℕ → ℕ) : Type 0 where
  -- for each fact, the value set by the effect on it at the latest tick: all on it at that tick agree
  pub facts : (f e : ℕ) → SetsLast m x f e → end_value m x f ≡ m.effect_value e
  -- there is one where any effect is on the fact
  pub some_last : (f e : ℕ) → e < m.effects → m.effect_fact e ≡ f → (l : ℕ) × SetsLast m x f l
  -- the initial value if no effect sets it
  pub unset : (f : ℕ) → f < m.facts → ((e : ℕ) → e < m.effects → m.effect_fact e ≡ f → ⊥) → end_value m x f ≡ m.initial f
  -- for each level, its initial amount plus the amounts of all its uses: each amount carries its `sign_bias`, so each use adds one
  pub levels : (l : ℕ) → l < m.levels → end_level m x l + over_uses m l (λ _. sign_bias) ≡ m.level_initial l + over_uses m l m.use_amount
