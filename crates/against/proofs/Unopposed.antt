-- Refusal 7 passes where no step is against itself, and refusal 17 where the clock is not.
use Prim.Native.Nat.{ℕ, ◌≤◌, ◌<◌}
use mathlib.Core.Path.{◌≡◌, ap, ◌∙◌}
use mathlib.Core.Bool.{Bool, true, false, not, ◌&&◌, and-false}
use mathlib.Core.Logic.{⊎_elim}
use native.Mathlib.Omega.{arith}
use borrow.Author.Tests.{ltb-true, leb-true, eqb-true, eq-eqb, le-ltb}
use lib.Dec.{eqb}
use Rattle.laws.specs.Search.{any, lowest_owner}
use Rattle.laws.proofs.Search.{either, contrary, and_both, any_none, lowest_is}
use Rattle.verdict.specs.declared.Refusal.TheVariants.{StepAgainstItself, TimedFactsConflict}
use Rattle.verdict.specs.Verdict.{number}
use Rattle.verdict.proofs.Chain.{zero_refuse, zero_lowest}
use Rattle.job.specs.Model.{Model}
use Rattle.against.specs.Against.{both_ways, uses_twice, opposes_own, set_before, used_before, opposes_any, both_ways_step, uses_twice_step, opposes_own_step}
use Rattle.against.specs.Against.{against_step, step_check}
use Rattle.against.specs.Clock.{timed_both_ways, timed_conflicts, timed_check}

-- where no index passes, none has an owner that counts
owner_all : (n m : ℕ) (owner : ℕ → ℕ) (p : ℕ → Bool) → ((k : ℕ) → k < m → p k ≡ false) → lowest_owner n m owner p ≡ n
unfolding lowest_owner
owner_all n m owner p h =
    lowest_is (λ s. any m (λ k. eqb (owner k) s && p k)) n n (omega arith)
    (λ s _. any_none (λ k. eqb (owner k) s && p k) m (λ k l. ap (λ b. eqb (owner k) s && b) (h k l) ∙ and-false (eqb (owner k) s)))
    (λ l. absurd (let z : n < n = l in omega arith))

-- what does not pass fails
pub fails : (b : Bool) → (b ≡ true → ⊥) → b ≡ false
fails b h = ⊎_elim (λ (t : b ≡ true). absurd (h t)) (λ f. f) (either b)

-- a test of `not` that passes against what it denies
denied : {a b : ℕ} → not (eqb a b) ≡ true → a ≡ b → ⊥
denied {a} {b} t e = contrary t (ap not (eq-eqb a b e))

module _ (m : Model) where
  one_way_passes :
      ((e f : ℕ) → e < m.effects → f < m.effects → m.effect_step e ≡ m.effect_step f → m.effect_fact e ≡ m.effect_fact f
      → m.effect_at e ≡ m.effect_at f
      → m.effect_value e ≡ m.effect_value f)
      → both_ways_step m ≡ m.steps
  unfolding both_ways_step set_before both_ways
  one_way_passes h =
      owner_all _ _ _ (set_before m) (λ e l.
      any_none (both_ways m e) e (λ f g.
      fails (both_ways m e f) (λ t.
      let c = and_both _ _ t in
      let b = and_both _ _ c.0 in
      let a = and_both _ _ b.0 in
      denied c.1 (h e f l (omega arith) (eqb-true _ _ a.0) (eqb-true _ _ a.1) (eqb-true _ _ b.1)))))

  one_use_passes :
      ((u v : ℕ) → u < m.uses → v < m.uses → m.use_step u ≡ m.use_step v → m.use_level u ≡ m.use_level v → m.use_at u ≡ m.use_at v
      → u ≡ v)
      → uses_twice_step m ≡ m.steps
  unfolding uses_twice_step used_before uses_twice
  one_use_passes h =
      owner_all _ _ _ (used_before m) (λ u l.
      any_none (uses_twice m u) u (λ v g.
      fails (uses_twice m u v) (λ t.
      let b = and_both _ _ t in
      let a = and_both _ _ b.0 in
      let q : u ≡ v = h u v l (omega arith) (eqb-true _ _ a.0) (eqb-true _ _ a.1) (eqb-true _ _ b.1) in
      omega arith)))

  keeps_own_passes :
      ((e c : ℕ) → e < m.effects → c < m.conditions → m.effect_step e ≡ m.condition_step c → m.effect_fact e ≡ m.condition_fact c
      → m.condition_from c ≤ m.effect_at e
      → m.effect_at e < m.condition_to c
      → m.effect_value e ≡ m.condition_value c)
      → opposes_own_step m ≡ m.steps
  unfolding opposes_own_step opposes_any opposes_own
  keeps_own_passes h =
      owner_all _ _ _ (opposes_any m) (λ e l.
      any_none (opposes_own m e) m.conditions (λ k g.
      fails (opposes_own m e k) (λ t.
      let d = and_both _ _ t in
      let c = and_both _ _ d.0 in
      let b = and_both _ _ c.0 in
      let a = and_both _ _ b.0 in
      denied b.1 (h e k l g (eqb-true _ _ a.0) (eqb-true _ _ a.1) (leb-true _ _ c.1) (ltb-true _ _ d.1)))))

-- no step is against itself: the three sentences of `WellFormed`
pub steps_pass :
    (m : Model)
    → ((e f : ℕ) → e < m.effects → f < m.effects → m.effect_step e ≡ m.effect_step f → m.effect_fact e ≡ m.effect_fact f
    → m.effect_at e ≡ m.effect_at f
    → m.effect_value e ≡ m.effect_value f)
    → ((u v : ℕ) → u < m.uses → v < m.uses → m.use_step u ≡ m.use_step v → m.use_level u ≡ m.use_level v → m.use_at u ≡ m.use_at v
    → u ≡ v)
    → ((e c : ℕ) → e < m.effects → c < m.conditions → m.effect_step e ≡ m.condition_step c → m.effect_fact e ≡ m.condition_fact c
    → m.condition_from c ≤ m.effect_at e
    → m.effect_at e < m.condition_to c
    → m.effect_value e ≡ m.condition_value c)
    → number (step_check m) ≡ 0
unfolding step_check against_step
steps_pass m one_way one_use keeps_own =
    let a = one_way_passes m one_way in
    let b = one_use_passes m one_use in
    let c = keeps_own_passes m keeps_own in
    zero_refuse _ (StepAgainstItself (against_step m)) (le-ltb (against_step m) m.steps (omega arith))

-- and the clock is not: the last one
pub clock_passes :
    (m : Model)
    → ((j k : ℕ) → j < m.timed → k < m.timed → m.timed_fact j ≡ m.timed_fact k → m.timed_tick j ≡ m.timed_tick k
    → m.timed_value j ≡ m.timed_value k)
    → number (timed_check m) ≡ 0
unfolding timed_check timed_conflicts timed_both_ways
clock_passes m one_way =
    zero_lowest m.timed (timed_conflicts m) TimedFactsConflict (λ j l.
    any_none (timed_both_ways m j) m.timed (λ k g.
    fails (timed_both_ways m j k) (λ t.
    let b = and_both _ _ t in
    let a = and_both _ _ b.0 in
    denied b.1 (one_way j k l g (eqb-true _ _ a.0) (eqb-true _ _ a.1)))))
