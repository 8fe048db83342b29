-- Part of the promise: what a fact set both ways is, in plain words.
use Rattle.std.specs.Prelude.{ℕ, ◌<◌, ◌≡◌}
use Rattle.job.specs.Model.{Model}

-- 7: effects e and f of the step set a fact both ways at one tick
pub record SetsBothWays (m : Model) (step e f : ℕ) : Type 0 where
  pub known : (e < m.effects) × (f < m.effects)
  pub own : (m.effect_step e ≡ step) × (m.effect_step f ≡ step)
  pub same_fact : m.effect_fact e ≡ m.effect_fact f
  pub same_tick : m.effect_at e ≡ m.effect_at f
  pub other_value : m.effect_value e ≡ m.effect_value f → ⊥

-- some do, and none of a lower step
pub record FirstBothWays (m : Model) (step : ℕ) : Type 0 where
  pub counted : step < m.steps
  pub sets : (e : ℕ) × (f : ℕ) × SetsBothWays m step e f
  pub no_lower : (lower e f : ℕ) → lower < step → SetsBothWays m lower e f → ⊥
