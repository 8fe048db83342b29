-- Laws of the tests of refusal 7: their keys, and one field tested before the others.
use Prim.Native.Nat.{ℕ}
use mathlib.Core.Path.{◌≡◌, sym, ap₂, ◌∙◌}
use mathlib.Core.Bool.{true, false, ◌&&◌, and-true, and-false}
use lib.Dec.{ltb, leb, eqb}
use borrow.Author.Tests.{eqb-true, eq-eqb, ne_eqb}
use Rattle.laws.proofs.Search.{and_both}
use Rattle.job.specs.Model.{Model}
use Rattle.against.specs.Against.{uses_twice, opposes_own}
use Rattle.self_check.specs.Keys.{step_key, effect_key, condition_key, use_key}

-- only records of one step and fact or level pass, so they share a key
shared_key : (a b x y : ℕ) → (eqb a b && eqb x y) ≡ true → step_key b y ≡ step_key a x
shared_key a b x y t = let e = and_both _ _ t in ap₂ step_key (sym (eqb-true _ _ e.0)) (sym (eqb-true _ _ e.1))

pub own_uses_twice : (m : Model) (u k : ℕ) → uses_twice m u k ≡ true → use_key m k ≡ use_key m u
unfolding uses_twice
own_uses_twice m u k t = shared_key _ _ _ _ (and_both _ _ t).0

pub own_opposes : (m : Model) (e k : ℕ) → opposes_own m e k ≡ true → condition_key m k ≡ effect_key m e
unfolding opposes_own
own_opposes m e k t = shared_key _ _ _ _ (and_both _ _ (and_both _ _ (and_both _ _ t).0).0).0

-- A field that was tested before the others fails them all, or leaves the answer to them; x and y are the code's readings.
module _ (m : Model) (k j : ℕ) {x y : ℕ} where
  pub uses_twice_not : x ≡ m.use_at k → y ≡ m.use_at j → (x ≡ y → ⊥) → false ≡ uses_twice m k j
  unfolding uses_twice
  uses_twice_not p q n = simp (ne_eqb (m.use_at k) (m.use_at j) (λ e. n (p ∙ e ∙ sym q)), and-false)

  pub uses_twice_rest :
      x ≡ m.use_at k → y ≡ m.use_at j → x ≡ y
      → (eqb (m.use_step k) (m.use_step j) && eqb (m.use_level k) (m.use_level j)) ≡ uses_twice m k j
  unfolding uses_twice
  uses_twice_rest p q e = simp (eq-eqb (m.use_at k) (m.use_at j) (sym p ∙ e ∙ q), and-true)

  pub opposes_else : x ≡ m.effect_fact k → y ≡ m.condition_fact j → (x ≡ y → ⊥) → false ≡ opposes_own m k j
  unfolding opposes_own
  opposes_else p q n = simp (ne_eqb (m.effect_fact k) (m.condition_fact j) (λ e. n (p ∙ e ∙ sym q)), and-false)

  pub opposes_not : x ≡ m.effect_value k → y ≡ m.condition_value j → x ≡ y → false ≡ opposes_own m k j
  unfolding opposes_own
  opposes_not p q e = simp (eq-eqb (m.effect_value k) (m.condition_value j) (sym p ∙ e ∙ q), and-false)

  pub opposes_rest :
      {v w : ℕ} → v ≡ m.effect_fact k → w ≡ m.condition_fact j → v ≡ w
      → x ≡ m.effect_value k → y ≡ m.condition_value j → (x ≡ y → ⊥)
      → (eqb (m.effect_step k) (m.condition_step j) && leb (m.condition_from j) (m.effect_at k) && ltb (m.effect_at k) (m.condition_to j))
      ≡ opposes_own m k j
  unfolding opposes_own
  opposes_rest a b d p q n =
      simp (
        eq-eqb (m.effect_fact k) (m.condition_fact j) (sym a ∙ d ∙ b),
        ne_eqb (m.effect_value k) (m.condition_value j) (λ e. n (p ∙ e ∙ sym q)),
        and-true,
      )
