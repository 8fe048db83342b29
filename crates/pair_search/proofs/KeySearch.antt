-- What is found among the keys of a step's effects is what is found among the effects.
use Prim.Native.Nat.{ℕ, zero, suc, ◌+◌, ◌*◌, ◌/◌, ◌%◌, ◌≤◌, ◌<◌}
use mathlib.Core.Path.{◌≡◌, refl, sym, ap₂, ◌∙◌}
use mathlib.Core.Bool.{Bool, true, false}
use mathlib.Core.List.{map}
use mathlib.Core.Logic.{⊎_elim}
use native.Mathlib.Omega.{arith}
use borrow.Author.Tests.{eq-eqb, ne_eqb, eqb-true}
use lib.Dec.{eqb}
use Rattle.laws.proofs.Search.{either, contrary}
use Rattle.job.specs.Model.{Model}
use Rattle.job.specs.WellFormed.{Ranged}
use Rattle.against.specs.declared.Search.{Search}
use Rattle.against.specs.Against.{both_ways}
use Rattle.against.specs.Pairs.{effects_from, through_step}
use Rattle.against.specs.Onward.{◌onward◌, with_higher, through_pairs}
use Rattle.against.proofs.Onward.{through_pairs_lem}
use Rattle.against.proofs.PairSteps.{both_ways_says, both_ways_passes}
use Rattle.pair_search.specs.Keys.{at_span, key_of, effect_key, opposite, opposed}

-- a key without its value, its value alone, and the opposite key
key_half : (a b v : ℕ) → v ≤ 1 → ((a * at_span + b) * 2 + v) / 2 ≡ a * at_span + b
key_half a b v h = omega arith

key_value : (a b v : ℕ) → v ≤ 1 → ((a * at_span + b) * 2 + v) % 2 ≡ v
key_value a b v h = omega arith

-- two values that differ
one_of_two : {a b : ℕ} → a ≤ 1 → b ≤ 1 → (a ≡ b → ⊥) → a + b ≡ 1
one_of_two h g n = omega arith

module _ (m : Model) (ranged : Ranged m) where
  abbrev Near : ℕ → Type 0
  Near e = (m.effect_at e < at_span) × (m.effect_value e ≤ 1)

  near : (e : ℕ) → e < m.effects → Near e
  near e h =
      let b = ranged.effect_end e h in
      let c = ranged.length_range (m.effect_step e) (ranged.effect_step e h) in
      (omega arith, ranged.effect_value e h)

  opposite_key : (e : ℕ) → Near e → opposite (effect_key m e) + m.effect_value e ≡ (m.effect_fact e * at_span + m.effect_at e) * 2 + 1
  unfolding opposite key_of
  opposite_key e n =
      let h = key_half (m.effect_fact e) (m.effect_at e) (m.effect_value e) n.1 in
      let v = key_value (m.effect_fact e) (m.effect_at e) (m.effect_value e) n.1 in
      rw (h, v) (omega (arith, n.1))

  -- two effects of one step set a fact both ways where one key is the opposite of the other
  key_test : (e f : ℕ) → Near e → Near f → m.effect_step e ≡ m.effect_step f → opposed (effect_key m e) (effect_key m f) ≡ both_ways m e f
  unfolding key_of
  key_test e f n o same =
      let p = opposite_key e n in
      ⊎_elim
      (λ (t : both_ways m e f ≡ true).
      let b = both_ways_says m e f t in
      let value : m.effect_value e + m.effect_value f ≡ 1 = one_of_two n.1 o.1 b.3 in
      eq-eqb (effect_key m f) (opposite (effect_key m e)) (omega (arith, p, b.1, b.2)) ∙ sym t)
      (λ (t : both_ways m e f ≡ false).
      ne_eqb (effect_key m f) (opposite (effect_key m e)) (λ q.
      let fact : m.effect_fact e ≡ m.effect_fact f = omega (arith, p, q, n.0, n.1, o.0, o.1) in
      let at : m.effect_at e ≡ m.effect_at f = omega (arith, p, q, n.0, n.1, o.0, o.1) in
      contrary (both_ways_passes m e f same fact at (λ v. omega (arith, p, q, fact, at))) t)
      ∙ sym t)
      (either (both_ways m e f))

  -- the effects of a step from k on, n of them looked at
  module _ (s : ℕ) where
    with_keys :
        (e : ℕ) → Near e → m.effect_step e ≡ s → (n k : ℕ) → k + n ≤ m.effects
        → with_higher opposed (effect_key m e) (map (effect_key m) (effects_from m s k n)) ≡ with_higher (both_ways m) e (effects_from m s k n)
    unfolding with_higher effects_from
    with_keys e o own zero k h = refl
    with_keys e o own (suc n) k h =
        let rest = with_keys e o own n (suc k) (omega arith) in
        ⊎_elim
        (λ (t : eqb (m.effect_step k) s ≡ true).
        let test = key_test e k o (near k (omega arith)) (own ∙ sym (eqb-true _ _ t)) in
        rw t (ap₂ (λ (b : Bool) (a : Search). record { compared = 1; found = b } onward a) test rest))
        (λ (t : eqb (m.effect_step k) s ≡ false). rw t rest)
        (either (eqb (m.effect_step k) s))

    pairs_keys :
        (n k : ℕ) → k + n ≤ m.effects
        → through_pairs opposed (map (effect_key m) (effects_from m s k n)) ≡ through_pairs (both_ways m) (effects_from m s k n)
    unfolding through_pairs effects_from
    pairs_keys zero k h = refl
    pairs_keys (suc n) k h =
        let rest = pairs_keys n (suc k) (omega arith) in
        ⊎_elim
        (λ (t : eqb (m.effect_step k) s ≡ true).
        rw t (ap₂ ◌onward◌ (with_keys k (near k (omega arith)) (eqb-true _ _ t) n (suc k) (omega arith)) rest))
        (λ (t : eqb (m.effect_step k) s ≡ false). rw t rest)
        (either (eqb (m.effect_step k) s))

    pub step_keys : through_pairs opposed (map (effect_key m) (effects_from m s 0 m.effects)) ≡ through_step m s
    unfolding through_step
    step_keys = pairs_keys m.effects 0 (omega arith) ∙ sym (through_pairs_lem (both_ways m) _)
