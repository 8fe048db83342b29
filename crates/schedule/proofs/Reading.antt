-- A file that refusals 1 to 6 pass, and what refusals 7 and 17 then say of it.
use Prim.Native.Nat.{ℕ, ◌+◌, ◌-◌, ◌≤◌, ◌<◌}
use mathlib.Core.Path.{◌≡◌, refl, sym, ap, subst, ◌∙◌}
use mathlib.Core.List.{List}
use native.Mathlib.Omega.{arith}
use borrow.Author.Tests.{lt-ltb, le-ltb}
use Rattle.verdict.specs.Verdict.{number, ◌then◌}
use Rattle.verdict.proofs.Chain.{zero_then}
use Rattle.job.specs.declared.layout.Job.{Job}
use Rattle.job.specs.Laid.{Laid}
use Rattle.job.specs.Model.{Model, view}
use Rattle.job.specs.WellFormed.{WellFormed, Ranged}
use Rattle.job.specs.Clocked.{clocked}
use Rattle.record_check.proofs.Ranged.{ranged}
use Rattle.record_check.proofs.Laid.{passed_laid}
use Rattle.against.specs.Against.{step_check}
use Rattle.against.specs.Clock.{timed_check}
use Rattle.against.proofs.Unopposed.{steps_pass, clock_passes}
use Rattle.form.specs.Refusals.{form_check}
use Rattle.form.proofs.WellFormed.{well_formed_lem}
use Rattle.form.proofs.Decides.{records_passed}
use Rattle.validity.specs.Ticks.{effect_tick}
use Rattle.schedule.specs.Opened.{Read}
use Rattle.schedule.specs.Timed.{Clear}

-- where the walks find nothing wrong, neither a step nor the clock is against itself
module _ (m : Model) {x : ℕ → ℕ} (clear : Clear (clocked m) x) where
  abbrev M : Model
  M = clocked m

  -- effects that agree in step, fact and tick under any starts agree in value
  agrees :
      (e f : ℕ) → e < M.effects → f < M.effects → M.effect_step e ≡ M.effect_step f → M.effect_fact e ≡ M.effect_fact f
      → M.effect_at e ≡ M.effect_at f
      → M.effect_value e ≡ M.effect_value f
  agrees e f h g step fact at =
      let start : x (M.effect_step e) ≡ x (M.effect_step f) = ap x step in
      clear.one_value e f h g fact (let tick : effect_tick M x e ≡ effect_tick M x f = omega arith in tick)

  steps_agree :
      (e f : ℕ) → e < m.effects → f < m.effects → m.effect_step e ≡ m.effect_step f → m.effect_fact e ≡ m.effect_fact f
      → m.effect_at e ≡ m.effect_at f
      → m.effect_value e ≡ m.effect_value f
  steps_agree e f h g =
      rw (lt-ltb e m.effects h, lt-ltb f m.effects g) at (agrees e f (omega arith) (omega arith))

  timed_agree :
      (j k : ℕ) → j < m.timed → k < m.timed → m.timed_fact j ≡ m.timed_fact k → m.timed_tick j ≡ m.timed_tick k
      → m.timed_value j ≡ m.timed_value k
  timed_agree j k h g =
      let a : m.effects + j - m.effects ≡ j = omega arith in
      let b : m.effects + k - m.effects ≡ k = omega arith in
      let agree = rw (le-ltb (m.effects + j) m.effects (omega arith), le-ltb (m.effects + k) m.effects (omega arith), a, b) at
      (agrees (m.effects + j) (m.effects + k) (omega arith) (omega arith)) in
      agree refl

  own_kept :
      (e c : ℕ) → e < m.effects → c < m.conditions → m.effect_step e ≡ m.condition_step c → m.effect_fact e ≡ m.condition_fact c
      → m.condition_from c ≤ m.effect_at e
      → m.effect_at e < m.condition_to c
      → m.effect_value e ≡ m.condition_value c
  own_kept e c h g = rw (lt-ltb e m.effects h) at (clear.keeps_own e c (omega arith) g)

  pub clear_against : number (step_check m then timed_check m) ≡ 0
  clear_against = zero_then _ _ (steps_pass m steps_agree clear.one_use own_kept) (clock_passes m timed_agree)

module _ {s : List ℕ} {job : Job} (read : Read s job) where
  pub read_in_range : Ranged (view job s)
  read_in_range = subst (λ (j : Job). Ranged (view j s)) (sym read.header) (ranged s read.passed)

  pub read_lies : Laid job s
  read_lies = passed_laid s job read.passed read.header

  -- refusals 1 to 7 and 17 are then 7 and 17
  pub read_form : (step_check (view job s) then timed_check (view job s)) ≡ form_check s
  read_form =
      subst (λ (j : Job). (step_check (view j s) then timed_check (view j s)) ≡ form_check s) (sym read.header) (records_passed s read.passed)

  -- and a job that these pass too is well formed
  pub read_formed : number (step_check (view job s) then timed_check (view job s)) ≡ 0 → WellFormed (view job s)
  read_formed z = subst (λ (j : Job). WellFormed (view j s)) (sym read.header) (well_formed_lem s (sym (ap number read_form) ∙ z))
