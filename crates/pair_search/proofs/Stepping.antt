-- A loop over the steps: what it has passed, then the rest.
use Prim.Native.Nat.{ℕ, suc, ◌+◌, ◌*◌, ◌-◌, ◌≤◌, ◌<◌}
use mathlib.Core.Path.{◌≡◌, sym, ap, ◌∙◌}
use mathlib.Core.Bool.{true, false}
use native.Mathlib.Numerals.{add-one}
use native.Mathlib.Omega.{arith}
use Rattle.job.specs.Layout.{most_effects}
use Rattle.job.specs.Model.{Model}
use Rattle.against.specs.declared.Search.{Search}
use Rattle.against.specs.declared.StepSearch.{StepSearch}
use Rattle.against.specs.Pairs.{through_step, through_steps, pair_search}

-- a search with so many pairs before it
abbrev after : ℕ → StepSearch → StepSearch
after n a = record { compared = n + a.compared; step = a.step }

-- no pair of the steps up to this one is found, and these pairs are so many
pub record PassedSteps (m : Model) (compared step : ℕ) : Type 0 where
  pub most : step ≤ m.steps
  pub few : compared ≤ most_effects * most_effects * step
  pub rest : pair_search m ≡ after compared (through_steps m step (m.steps - step))

pub steps_start : {m : Model} → PassedSteps m 0 0
unfolding pair_search
steps_start {m} =
    let a = through_steps m 0 m.steps in
    let e : a.compared ≡ 0 + a.compared = omega arith in
    let z : m.steps ≡ m.steps - 0 = omega arith in
    record {
      most = omega arith;
      few = omega arith;
      rest = ap (λ (n : ℕ). record { compared = n; step = a.step }) e ∙ ap (λ (n : ℕ). after 0 (through_steps m 0 n)) z;
    }

module _ {m : Model} {compared step : ℕ} (w : PassedSteps m compared step) where
  module _ (h : step < m.steps) {a : Search} (e : a ≡ through_step m step) where
    one_more : m.steps - step ≡ suc (m.steps - suc step)
    one_more = omega arith

    pub steps_found : a.found ≡ true → record { compared = compared + a.compared; step = step } ≡ pair_search m
    unfolding through_steps
    steps_found t =
        sym
        (w.rest ∙ ap (λ (n : ℕ). after compared (through_steps m step n)) one_more
        ∙ rw (← e, t))

    pub steps_more : a.compared ≤ most_effects * most_effects → a.found ≡ false → PassedSteps m (compared + a.compared) (step + 1)
    unfolding through_steps
    steps_more few t =
        let b = through_steps m (suc step) (m.steps - suc step) in
        let q : compared + (a.compared + b.compared) ≡ compared + a.compared + b.compared = omega arith in
        rw (add-one step)
        (record {
          most = h;
          few = omega (arith, w.few);
          rest =
              w.rest ∙ ap (λ (n : ℕ). after compared (through_steps m step n)) one_more
              ∙ rw (← e, t) (ap (λ (n : ℕ). record { compared = n; step = b.step }) q);
        })

  pub steps_end : m.steps ≤ step → record { compared = compared; step = m.steps } ≡ pair_search m
  unfolding through_steps
  steps_end l =
      let z : m.steps - step ≡ 0 = omega arith in
      let q : compared + 0 ≡ compared = omega arith in
      let n : step ≡ m.steps = omega (arith, w.most) in
      sym
      (w.rest ∙ ap (λ (n : ℕ). after compared (through_steps m step n)) z ∙ ap (λ (n : ℕ). record { compared = n; step = step }) q
      ∙ ap (λ (n : ℕ). record { compared = compared; step = n }) n)
