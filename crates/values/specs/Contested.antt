-- Between crates: conditions that look wrong along a walk: they fail, or something opposes them before their last tick, their own step perhaps.
use Rattle.std.specs.Prelude.{ℕ, ◌-◌, ◌<◌, ◌≡◌, Bool, false, ◌&&◌, ◌||◌, List, leb, ltb}
use Rattle.laws.specs.Search.{any}
use Rattle.job.specs.Model.{Model}
use Rattle.timeline.specs.Words.{step_span}
use Rattle.validity.specs.Ticks.{effect_tick, first_tick, last_tick, opposes}
use Rattle.validity.specs.Checks.{condition_fails}
use Rattle.opposing.specs.Against.{Scanned}

-- effect e opposes condition c from its first tick to before its last
unfoldable pub opposes_early : Model → (ℕ → ℕ) → ℕ → ℕ → Bool
opposes_early m x c e =
    opposes m e (m.condition_fact c) (m.condition_value c) && leb (first_tick m x c) (effect_tick m x e)
    && ltb (effect_tick m x e) (last_tick m x c)

-- a condition that fails or is opposed before its last tick: where no step is against itself, one that fails
unfoldable pub contested : Model → (ℕ → ℕ) → ℕ → Bool
contested m x c = condition_fails m x c || any m.effects (opposes_early m x c)

-- a step that no point is of
abbrev pub no_step : ℕ
no_step = step_span - 1

-- whether a point from place `from` on, before tick `last`, has another value
pub record ScannedBefore (points : List ℕ) (from high last value : ℕ) (r : Bool) : Type 0 where
  pub never : last ≡ 0 → r ≡ false
  pub scan : 0 < last → Scanned points from high (last - 1) value no_step r

-- whether a point from place `from` on has another value: of another step up to tick `last`, or of any step before it
pub record Opposed (points : List ℕ) (from high last value step : ℕ) (r : Bool) : Type 0 where
  pub broken : Bool
  pub early : Bool
  pub scan : Scanned points from high last value step broken
  pub scanned : ScannedBefore points from high last value early
  pub either : r ≡ (broken || early)
