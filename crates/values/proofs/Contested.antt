-- A contested condition fails, unless a step is against itself; and where none is contested, no step opposes its own condition.
use Prim.Native.Nat.{ℕ, ◌≤◌, ◌<◌}
use mathlib.Core.Path.{◌≡◌, refl, sym, ap, ap₂, ◌∙◌}
use mathlib.Core.Bool.{Bool, true, false, not, ◌&&◌, ◌||◌}
use mathlib.Core.Logic.{⊎_elim}
use native.Mathlib.Decide.{ℕ_discrete}
use native.Mathlib.Omega.{arith}
use borrow.Author.Tests.{eqb-true, eqb-false, not-true, eq-eqb, ne_eqb, leb-true, le-leb, ltb-true, lt-ltb}
use lib.Dec.{eqb, leb, ltb}
use Rattle.laws.specs.Search.{any, lowest}
use Rattle.laws.proofs.Search.{either, contrary, and_both, or_both, any_intro, any_none, any_false, lowest_cong, lowest_facts}
use Rattle.job.specs.Model.{Model}
use Rattle.validity.specs.Ticks.{effect_tick, first_tick, last_tick, opposes}
use Rattle.validity.specs.Seen.{seen}
use Rattle.validity.specs.Checks.{breaks, condition_fails}
use Rattle.values.specs.Contested.{opposes_early, contested}

module _ (m : Model) (x : ℕ → ℕ) where
  -- what opposes a condition before its last tick breaks it, if it is another step's
  early_breaks : (c e : ℕ) → opposes_early m x c e ≡ true → (m.effect_step e ≡ m.condition_step c → ⊥) → breaks m x c e ≡ true
  unfolding opposes_early breaks
  early_breaks c e t another =
      let d = and_both (opposes m e (m.condition_fact c) (m.condition_value c) && leb (first_tick m x c) (effect_tick m x e))
      (ltb (effect_tick m x e) (last_tick m x c)) t in
      let b = and_both (opposes m e (m.condition_fact c) (m.condition_value c)) (leb (first_tick m x c) (effect_tick m x e)) d.0 in
      let early : effect_tick m x e < last_tick m x c = ltb-true (effect_tick m x e) (last_tick m x c) d.1 in
      ap₂ ◌&&◌ (ap₂ ◌&&◌ (ap₂ ◌&&◌ (ap not (ne_eqb (m.effect_step e) (m.condition_step c) another)) b.0) b.1)
      (le-leb (effect_tick m x e) (last_tick m x c) (omega arith))

  breaks_fails : (c e : ℕ) → e < m.effects → breaks m x c e ≡ true → condition_fails m x c ≡ true
  unfolding condition_fails
  breaks_fails c e h t =
      or_true (not (eqb (seen m x (m.condition_fact c) (first_tick m x c)) (m.condition_value c))) (any_intro (breaks m x c) m.effects e h t)
    where
      or_true : (a : Bool) {b : Bool} → b ≡ true → (a || b) ≡ true
      or_true true e = refl
      or_true false e = e

  -- where no step opposes its own condition before its last tick, whoever is contested fails
  module _
      (keeps : (e c : ℕ) → e < m.effects → c < m.conditions → m.effect_step e ≡ m.condition_step c → m.effect_fact e ≡ m.condition_fact c
      → m.condition_from c ≤ m.effect_at e
      → m.effect_at e < m.condition_to c
      → m.effect_value e ≡ m.condition_value c)
    where
      own_none : (c e : ℕ) → e < m.effects → c < m.conditions → opposes_early m x c e ≡ true → m.effect_step e ≡ m.condition_step c → ⊥
      unfolding opposes_early
      own_none c e h g t own =
          let d = and_both (opposes m e (m.condition_fact c) (m.condition_value c) && leb (first_tick m x c) (effect_tick m x e))
          (ltb (effect_tick m x e) (last_tick m x c)) t in
          let b = and_both (opposes m e (m.condition_fact c) (m.condition_value c)) (leb (first_tick m x c) (effect_tick m x e)) d.0 in
          let o = and_both (eqb (m.effect_fact e) (m.condition_fact c)) (not (eqb (m.effect_value e) (m.condition_value c))) b.0 in
          let same : x (m.effect_step e) ≡ x (m.condition_step c) = ap x own in
          let late : first_tick m x c ≤ effect_tick m x e = leb-true (first_tick m x c) (effect_tick m x e) b.1 in
          let early : effect_tick m x e < last_tick m x c = ltb-true (effect_tick m x e) (last_tick m x c) d.1 in
          eqb-false (m.effect_value e) (m.condition_value c) (not-true (eqb (m.effect_value e) (m.condition_value c)) o.1)
          (keeps e c h g own (eqb-true (m.effect_fact e) (m.condition_fact c) o.0) (omega arith) (omega arith))

      fails_contested : (c : ℕ) → c < m.conditions → contested m x c ≡ condition_fails m x c
      unfolding contested
      fails_contested c g =
          ⊎_elim
          (λ (f : condition_fails m x c ≡ true). ap (λ b. b || any m.effects (opposes_early m x c)) f ∙ sym f)
          (λ (n : condition_fails m x c ≡ false).
          ap₂ ◌||◌ n
          (any_none (opposes_early m x c) m.effects
          (λ e h.
          ⊎_elim
          (λ (t : opposes_early m x c e ≡ true). contrary (breaks_fails c e h (early_breaks c e t (own_none c e h g t))) n)
          (λ (z : opposes_early m x c e ≡ false). z)
          (either (opposes_early m x c e))))
          ∙ sym n)
          (either (condition_fails m x c))

      pub contested_lowest : {r : ℕ} → r ≡ lowest m.conditions (contested m x) → r ≡ lowest m.conditions (condition_fails m x)
      contested_lowest e = e ∙ lowest_cong (contested m x) (condition_fails m x) m.conditions fails_contested

  -- Nothing is contested.
  module _ (none : m.conditions ≡ lowest m.conditions (contested m x)) where
    uncontested : (c : ℕ) → c < m.conditions → (condition_fails m x c ≡ false) × (any m.effects (opposes_early m x c) ≡ false)
    unfolding contested
    uncontested c h =
        or_both (condition_fails m x c) (any m.effects (opposes_early m x c)) ((lowest_facts (contested m x) m.conditions).1 c (omega arith))

    pub own_kept :
        (e c : ℕ) → e < m.effects → c < m.conditions → m.effect_step e ≡ m.condition_step c → m.effect_fact e ≡ m.condition_fact c
        → m.condition_from c ≤ m.effect_at e
        → m.effect_at e < m.condition_to c
        → m.effect_value e ≡ m.condition_value c
    unfolding opposes_early
    own_kept e c h g own fact from to =
        elim (ℕ_discrete (m.effect_value e) (m.condition_value c)) [
          | yes v ↦ v
          | no v ↦
              let same : x (m.effect_step e) ≡ x (m.condition_step c) = ap x own in
              contrary
              (ap₂ ◌&&◌
              (ap₂ ◌&&◌ (ap₂ ◌&&◌ (eq-eqb (m.effect_fact e) (m.condition_fact c) fact) (ap not (ne_eqb (m.effect_value e) (m.condition_value c) v)))
              (le-leb (first_tick m x c) (effect_tick m x e) (omega arith)))
              (lt-ltb (effect_tick m x e) (last_tick m x c) (omega arith)))
              (any_false (opposes_early m x c) m.effects (uncontested c g).1 e h)
        ]
