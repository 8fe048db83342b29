-- The timed facts of a job among the effects of the clock, and the effects of its steps among all.
use Prim.Native.Nat.{ℕ, ◌+◌, ◌-◌, ◌<◌}
use mathlib.Core.Path.{◌≡◌, sym, ap, ◌∙◌}
use mathlib.Core.List.{List}
use native.Mathlib.Decide.{dec_lt}
use native.Mathlib.Omega.{arith}
use Rattle.job.specs.Model.{Model}
use Rattle.job.specs.Clocked.{behind, clocked}
use Rattle.job.proofs.Clocked.{of_effect, of_timed}
use Rattle.validity.specs.Ticks.{schedule_of, effect_tick}
use Rattle.orders.proofs.Orders.{Opposer}
use Rattle.limits.specs.Timed.{TimedPoints}

module _ {m : Model} {starts points begins : List ℕ} (w : TimedPoints m starts points begins) where
  abbrev M : Model
  M = clocked m

  abbrev x : ℕ → ℕ
  x = schedule_of starts

  -- timed fact j is an effect of the clock
  timed_at : (f g : ℕ → ℕ) (j : ℕ) → behind m f g (m.effects + j) ≡ g j
  timed_at f g j =
      let e : m.effects + j - m.effects ≡ j = omega arith in
      of_timed m f g (m.effects + j) (omega arith) ∙ ap g e

  pub timed_known : (j : ℕ) → j < m.timed → m.effects + j < M.effects
  timed_known j l = omega arith

  pub timed_step : (j : ℕ) → M.effect_step (m.effects + j) ≡ m.steps
  timed_step j = timed_at m.effect_step (λ _. m.steps) j

  pub timed_offset : (j : ℕ) → M.effect_at (m.effects + j) ≡ m.timed_tick j
  timed_offset j = timed_at m.effect_at m.timed_tick j

  pub timed_fact_lem : (j : ℕ) → M.effect_fact (m.effects + j) ≡ m.timed_fact j
  timed_fact_lem j = timed_at m.effect_fact m.timed_fact j

  pub timed_value_lem : (j : ℕ) → M.effect_value (m.effects + j) ≡ m.timed_value j
  timed_value_lem j = timed_at m.effect_value m.timed_value j

  pub timed_tick_lem : (j : ℕ) → effect_tick M x (m.effects + j) ≡ m.timed_tick j
  timed_tick_lem j = omega (arith, ap x (timed_step j), timed_offset j, w.clock)

  pub timed_opposes :
      (j fact value : ℕ) → j < m.timed → fact ≡ m.timed_fact j → (value ≡ m.timed_value j → ⊥) → Opposer M fact value (m.effects + j)
  timed_opposes j fact value l e d =
      record {
        known = timed_known j l;
        of_fact = timed_fact_lem j ∙ sym e;
        not_value = λ q. d (sym q ∙ timed_value_lem j);
      }

  -- what opposes as an effect of the clock is a timed fact
  pub of_clock : (e : ℕ) → e < M.effects → M.effect_step e ≡ m.steps → (j : ℕ) × (j < m.timed) × (e ≡ m.effects + j)
  of_clock e l s =
      elim (dec_lt e m.effects) [
        | yes h ↦ absurd (omega (arith, s, of_effect m m.effect_step (λ _. m.steps) e h, w.form.effect_step e h))
        | no h ↦ (e - m.effects, omega arith, omega arith)
      ]

  pub clock_opposes :
      (j fact value : ℕ) → Opposer M fact value (m.effects + j) → (fact ≡ m.timed_fact j) × (value ≡ m.timed_value j → ⊥)
  clock_opposes j fact value o = (
    sym o.of_fact ∙ timed_fact_lem j,
    λ q. o.not_value (timed_value_lem j ∙ sym q),
  )

  -- what is said of an effect of a step
  pub of_step_lem : (e k : ℕ) → e < M.effects → k < m.steps → M.effect_step e ≡ k → e < m.effects
  of_step_lem e k l h s =
      elim (dec_lt e m.effects) [
        | yes i ↦ i
        | no i ↦ absurd (omega (arith, h, s, of_timed m m.effect_step (λ _. m.steps) e (omega arith)))
      ]

  module _ (e : ℕ) (h : e < m.effects) where
    pub own_step_lem : M.effect_step e ≡ m.effect_step e
    own_step_lem = of_effect m m.effect_step (λ _. m.steps) e h

    pub own_fact : M.effect_fact e ≡ m.effect_fact e
    own_fact = of_effect m m.effect_fact m.timed_fact e h

    pub own_offset : M.effect_at e ≡ m.effect_at e
    own_offset = of_effect m m.effect_at m.timed_tick e h

    pub own_value : M.effect_value e ≡ m.effect_value e
    own_value = of_effect m m.effect_value m.timed_value e h

    pub own_tick : effect_tick M x e ≡ effect_tick m x e
    own_tick = omega (arith, ap x own_step_lem, own_offset)

  -- a condition that opposes a timed fact and begins before it ends before it
  pub ends_before :
      (c j : ℕ) → c < m.conditions → j < m.timed → m.condition_fact c ≡ m.timed_fact j → (m.condition_value c ≡ m.timed_value j → ⊥)
      → x (m.condition_step c) + m.condition_from c < m.timed_tick j
      → x (m.condition_step c) + m.condition_to c < m.timed_tick j
  ends_before c j l h e d b =
      elim (dec_lt (x (m.condition_step c) + m.condition_to c) (m.timed_tick j)) [
        | yes i ↦ i
        | no i ↦
            let o = timed_opposes j (m.condition_fact c) (m.condition_value c) h e d in
            absurd (o.not_value
            (w.valid.condition_kept c (m.effects + j) l (timed_known j h)
            (λ q. absurd (omega (arith, q, timed_step j, w.form.condition_step c l)))
            o.of_fact
            (omega (arith, timed_tick_lem j))
            (omega (arith, timed_tick_lem j))))
      ]
