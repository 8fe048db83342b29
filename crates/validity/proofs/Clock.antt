-- A conflict of effects names a step's effect: two timed facts are of one step, so one of the two that conflict is a step's, and has the
-- lower number.
use Prim.Native.Nat.{ℕ, ◌≤◌, ◌<◌}
use mathlib.Core.Path.{◌≡◌, sym, ◌∙◌}
use native.Mathlib.Decide.{dec_lt}
use native.Mathlib.Omega.{arith}
use Rattle.job.specs.Model.{Model}
use Rattle.job.specs.Clocked.{clocked}
use Rattle.job.proofs.Clocked.{of_timed}
use Rattle.validity.specs.declared.Rule.TheVariants.{Effects}
use Rattle.validity.specs.Refused.{FirstViolation, ConflictsWith}

module _ (m : Model) (x : ℕ → ℕ) where
  abbrev M : Model
  M = clocked m

  timed_step : (e : ℕ) → m.effects ≤ e → M.effect_step e ≡ m.steps
  timed_step e l = of_timed m m.effect_step (λ _. m.steps) e l

  -- what conflicts with a timed fact is a step's effect
  pub conflict_of_step : (e f : ℕ) → m.effects ≤ e → ConflictsWith M x e f → f < m.effects
  conflict_of_step e f l c =
      elim (dec_lt f m.effects) [
        | yes h ↦ h
        | no h ↦ absurd (c.other_step (timed_step e l ∙ sym (timed_step f (omega arith))))
      ]

  pub names_step : (e : ℕ) → FirstViolation M x Effects e → e < m.effects
  names_step e v =
      elim (dec_lt e m.effects) [
        | yes h ↦ h
        | no h ↦
            let f = v.violates.0 in
            let c = v.violates.1 in
            let l : f < m.effects = conflict_of_step e f (omega arith) c in
            absurd
            (c.other_value
            (sym
            (v.lower_keep f (omega arith) e v.counted (λ q. c.other_step (sym q)) (sym c.same_fact) (sym c.same_tick))))
      ]
