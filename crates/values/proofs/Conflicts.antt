-- What conflicts with an effect stands among the setters of its fact, beside a neighbour of another value.
use Prim.Native.Nat.{ℕ, ◌+◌, ◌≤◌, ◌<◌}
use mathlib.Core.Path.{◌≡◌, refl, sym, ap, ap₂, subst, ◌∙◌}
use mathlib.Core.Bool.{Bool, true, false, not, ◌&&◌}
use mathlib.Core.Logic.{⊎_elim}
use mathlib.Core.List.{List}
use native.Mathlib.Decide.{dec_lt}
use native.Mathlib.Omega.{arith}
use borrow.Author.Tests.{eqb-true, eqb-false, not-true, eq-eqb, ne_eqb}
use lib.ListN.{length, get_or}
use Rattle.laws.specs.Search.{lowest}
use Rattle.laws.proofs.Search.{either, contrary, by_order, and_both, any_none, any_false, lowest_is, lowest_facts}
use Rattle.job.specs.Model.{Model}
use Rattle.job.specs.Clocked.{clocked}
use Rattle.job.specs.WellFormed.{WellFormed}
use Rattle.job.proofs.Clocked.{of_effect, of_timed, clocked_form}
use Rattle.timeline.specs.Words.{tick_at, value_at}
use Rattle.timeline.specs.Placed.{Parted}
use Rattle.timeline.specs.Walking.{Walking}
use Rattle.timeline.proofs.Walking.{run_none}
use Rattle.validity.specs.Ticks.{effect_tick}
use Rattle.validity.specs.Checks.{meets, conflicts}
use Rattle.points.specs.Points.{PointsKnown, OneValue}
use Rattle.opposing.specs.Against.{FactsListed, FactsUnmixed, Rising, Scanned}
use Rattle.opposing.proofs.Unmixed.{unmixed_all}
use Rattle.values.proofs.Against.{Opposing, scan_any}

-- whoever meets an effect opposes it at its tick, and the other way round
module _ (m : Model) (x : ℕ → ℕ) (e k : ℕ) where
  meets_out : meets m x e k ≡ true → Opposing m x (m.effect_fact e) (m.effect_value e) (m.effect_step e) (effect_tick m x e) (effect_tick m x e) k
  unfolding meets
  meets_out t =
      let b = and_both _ _ t in
      let a = and_both _ _ b.0 in
      let o = and_both _ _ a.1 in
      let at : effect_tick m x e ≡ effect_tick m x k = eqb-true _ _ b.1 in
      record {
        of_fact = sym (eqb-true _ _ o.0);
        differs = λ q. eqb-false _ _ (not-true _ o.1) (sym q);
        another = λ q. eqb-false _ _ (not-true _ a.0) (sym q);
        late = omega arith;
        early = omega arith;
      }

  meets_in : Opposing m x (m.effect_fact e) (m.effect_value e) (m.effect_step e) (effect_tick m x e) (effect_tick m x e) k → meets m x e k ≡ true
  unfolding meets
  meets_in o =
      ap₂ ◌&&◌
      (ap₂ ◌&&◌ (ap not (ne_eqb _ _ (λ q. o.another (sym q)))) (ap₂ ◌&&◌ (eq-eqb _ _ (sym o.of_fact)) (ap not (ne_eqb _ _ (λ q. o.differs
      (sym q))))))
      (eq-eqb (effect_tick m x e) (effect_tick m x k) (omega (arith, o.late, o.early)))

-- a conflict is of both
pub meets_back : (m : Model) (x : ℕ → ℕ) (e k : ℕ) → meets m x e k ≡ true → meets m x k e ≡ true
meets_back m x e k t =
    let o = meets_out m x e k t in
    meets_in m x k e
    (record {
      of_fact = sym o.of_fact;
      differs = λ q. o.differs (sym q);
      another = λ q. o.another (sym q);
      late = o.early;
      early = o.late;
    })

-- what is read of a step's effect
module _ (m : Model) where
  pub own_listed : WellFormed m → (e : ℕ) → e < m.effects → (clocked m).effect_fact e < m.facts
  own_listed w e h = (clocked_form m w).effect_fact e (omega arith)

  module _ (e : ℕ) (h : e < m.effects) {v : ℕ} where
    pub own_fact : v ≡ m.effect_fact e → v ≡ (clocked m).effect_fact e
    own_fact q = q ∙ sym (of_effect m m.effect_fact m.timed_fact e h)

    pub own_value : v ≡ m.effect_value e → v ≡ (clocked m).effect_value e
    own_value q = q ∙ sym (of_effect m m.effect_value m.timed_value e h)

    pub own_step_lem : v ≡ m.effect_step e → v ≡ (clocked m).effect_step e
    own_step_lem q = q ∙ sym (of_effect m m.effect_step (λ _. m.steps) e h)

-- The clock has no conflict with itself: where a timed fact conflicts, an effect of a step does, whose number is lower.
module _ (m : Model) (x : ℕ → ℕ) where
  clock_apart : (e k : ℕ) → m.effects ≤ e → m.effects ≤ k → meets (clocked m) x e k ≡ false
  clock_apart e k l g =
      ⊎_elim
      (λ (t : meets (clocked m) x e k ≡ true).
      absurd
      ((meets_out (clocked m) x e k t).another
      (of_timed m m.effect_step (λ _. m.steps) k g ∙ sym (of_timed m m.effect_step (λ _. m.steps) e l))))
      (λ (n : meets (clocked m) x e k ≡ false). n)
      (either (meets (clocked m) x e k))

  pub conflict_of_step :
      ((e : ℕ) → e < m.effects → conflicts (clocked m) x e ≡ false) → (e : ℕ) → e < (clocked m).effects
      → conflicts (clocked m) x e ≡ false
  unfolding conflicts
  conflict_of_step none e h =
      elim (dec_lt e m.effects) [
        | yes l ↦ none e l
        | no l ↦
            any_none (meets (clocked m) x e) (clocked m).effects
            (λ k g.
            elim (dec_lt k m.effects) [
              | yes i ↦
                  ⊎_elim
                  (λ (t : meets (clocked m) x e k ≡ true).
                  contrary (meets_back (clocked m) x e k t) (any_false (meets (clocked m) x k) (clocked m).effects (none k i) e h))
                  (λ (n : meets (clocked m) x e k ≡ false). n)
                  (either (meets (clocked m) x e k))
              | no i ↦ clock_apart e k (omega arith) (omega arith)
            ])
      ]

  pub no_step_conflicts :
      (e : ℕ) → lowest e (conflicts (clocked m) x) ≡ e → m.effects ≤ e
      → (clocked m).effects ≡ lowest (clocked m).effects (conflicts (clocked m) x)
  no_step_conflicts e none all =
      sym
      (lowest_is (conflicts (clocked m) x) (clocked m).effects (clocked m).effects (omega arith)
      (conflict_of_step (λ k l. (lowest_facts (conflicts (clocked m) x) e).1 k (omega (arith, none))))
      (λ l. absurd (let z : (clocked m).effects < (clocked m).effects = l in omega arith)))

-- The setters of an effect's fact.
module _ {m : Model} {x : ℕ → ℕ} {points begins : List ℕ} (known : PointsKnown m x points begins) (e : ℕ) (h : m.effect_fact e < m.facts) where
  -- The scan from the first place at its tick finds whether one of them conflicts with it.
  module _ {fact low high : ℕ} (on : fact ≡ m.effect_fact e) (begin : low ≡ get_or begins fact 0) (end : high ≡ get_or begins (fact + 1) 0) where
    lows : low ≡ get_or begins (m.effect_fact e) 0
    lows = begin ∙ ap (λ f. get_or begins f 0) on

    highs : high ≡ get_or begins (m.effect_fact e + 1) 0
    highs = end ∙ ap (λ f. get_or begins (f + 1) 0) on

    pub effect_walking : (tick : ℕ) → Walking points low high tick (record { place = low; run = low })
    effect_walking tick =
        let group = known.setters (m.effect_fact e) h in
        let a = lows in
        let b = highs in
        record {
          ends = omega (arith, group.ends);
          rises = λ p q l g k. group.rises p q (omega arith) g (omega arith);
          from = omega arith;
          to = omega (arith, group.begins);
          before = λ p l g. absurd (omega arith);
          run = run_none (omega arith) (omega arith) refl;
        }

    module _ {tick place : ℕ} (parts : Parted points low high tick place) where
      pub scan_ready : (high ≤ length points) × Rising points place high
      scan_ready = ((effect_walking tick).ends, λ p q l g k. (effect_walking tick).rises p q (omega (arith, parts.from)) g k)

      pub conflict_is :
          {value step : ℕ} {r : Bool} → tick ≡ effect_tick m x e → value ≡ m.effect_value e → step ≡ m.effect_step e
          → Scanned points place high tick value step r
          → r ≡ conflicts m x e
      unfolding conflicts
      conflict_is {value} {step} {r} at of by scan =
          scan_any known h lows highs (subst (λ t. Parted points low high t place) at parts) (omega arith) (λ p l g. absurd (omega arith))
          (subst (λ s. Scanned points place high (effect_tick m x e) (m.effect_value e) s r) by
          (subst (λ v. Scanned points place high (effect_tick m x e) v step r) of (subst (λ t. Scanned points place high t value step r) at scan)))
          (meets m x e) (λ k _. meets_out m x e k) (meets_in m x e)

module _ {m : Model} {x : ℕ → ℕ} {points begins : List ℕ} (known : PointsKnown m x points begins) where
  pub facts_listed : FactsListed m.facts points begins
  facts_listed = (omega (arith, known.room), λ f h. (known.setters f h).ends)

  -- where no fact is mixed, no two effects give one fact different values at one tick
  pub unmixed_one : ((e : ℕ) → e < m.effects → m.effect_fact e < m.facts) → FactsUnmixed m.facts points begins → OneValue m x
  unmixed_one listed so e k l g same at =
      let h = listed e l in
      let group = known.setters (m.effect_fact e) h in
      let a = group.found e (l, refl) in
      let b = group.found k (g, sym same) in
      let p : ℕ = a.0 in
      let q : ℕ = b.0 in
      let first = group.values p a.1 a.2 ∙ ap m.effect_value a.3 in
      let second = group.values q b.1 b.2 ∙ ap m.effect_value b.3 in
      let tick : tick_at points p ≡ tick_at points q =
      group.ticks p a.1 a.2 ∙ ap (effect_tick m x) a.3 ∙ at ∙ sym (group.ticks q b.1 b.2 ∙ ap (effect_tick m x) b.3)
      in
      let all = unmixed_all points group.rises (so (m.effect_fact e) h) in
      sym first
      ∙ by_order p q (λ i. all p q a.1 i b.2 tick) (λ i. sym (all q p b.1 i a.2 (sym tick))) (λ i. ap (value_at points) i)
      ∙ second

-- then no two conflict
pub one_value_lowest : (m : Model) (x : ℕ → ℕ) → OneValue m x → m.effects ≡ lowest m.effects (conflicts m x)
unfolding conflicts
one_value_lowest m x one =
    sym
    (lowest_is (conflicts m x) m.effects m.effects (omega arith)
    (λ e l.
    any_none (meets m x e) m.effects
    (λ k g.
    ⊎_elim
    (λ (t : meets m x e k ≡ true).
    let o = meets_out m x e k t in
    absurd (o.differs (sym (one e k l g (sym o.of_fact) (let at : effect_tick m x e ≡ effect_tick m x k = omega (arith, o.late, o.early) in at)))))
    (λ (n : meets m x e k ≡ false). n)
    (either (meets m x e k))))
    (λ l. absurd (let z : m.effects < m.effects = l in omega arith)))
