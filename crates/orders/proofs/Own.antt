-- Between two steps the timed facts order nothing: rules 2 and 3 give the gaps of the steps' own effects.
use Prim.Native.Nat.{ℕ, ◌+◌, ◌-◌, ◌≤◌, ◌<◌, max}
use mathlib.Core.Path.{◌≡◌, refl, ap₂, ◌∙◌}
use mathlib.Core.Bool.{Bool, true, false, ◌&&◌, cond}
use native.Mathlib.Decide.{dec_lt}
use native.Mathlib.Omega.{arith}
use borrow.Author.Tests.{lt-ltb, le-ltb, ne_eqb}
use lib.Dec.{ltb, eqb}
use Rattle.laws.specs.Fold.{largest}
use Rattle.laws.proofs.Fold.{largest_ge, largest_le, largest_cong}
use Rattle.job.specs.Model.{Model}
use Rattle.job.specs.Clocked.{clocked}
use Rattle.validity.specs.Ticks.{effect_tick, last_tick, opposes}
use Rattle.orders.specs.Gaps.{strictly, opposing_order, opposing_gap, before_order, after_order, condition_gap}

-- what counts for nothing past n leaves the largest as it is
largest_own : (f : ℕ → ℕ) (n k : ℕ) → ((e : ℕ) → n ≤ e → e < n + k → f e ≡ 0) → largest (n + k) f ≡ largest n f
largest_own f n k none =
    let more : largest (n + k) f ≤ largest n f = largest_le f (n + k) (largest n f) below in
    let less : largest n f ≤ largest (n + k) f = largest_le f n (largest (n + k) f) (λ e l. largest_ge f (n + k) e (omega arith)) in
    omega arith
  where
    below : (e : ℕ) → e < n + k → f e ≤ largest n f
    below e l =
        elim (dec_lt e n) [
          | yes h ↦ largest_ge f n e h
          | no h ↦ omega (arith, none e (omega arith) l)
        ]

-- a test whose second part fails chooses nothing
second_fails : (a b c d : Bool) (g : ℕ) → b ≡ false → cond (a && b && c && d) g 0 ≡ 0
second_fails true b c d g e = rw e refl
second_fails false b c d g e = refl

module _ (m : Model) (x : ℕ → ℕ) (i k : ℕ) (h : i < m.steps) (g : k < m.steps) where
  abbrev M : Model
  M = clocked m

  not_clock : (a : ℕ) → a < m.steps → eqb m.steps a ≡ false
  not_clock a l = ne_eqb m.steps a (λ e. omega arith)

  opposing_timed : (e f : ℕ) → m.effects ≤ e → opposing_order M x i k e f ≡ 0
  unfolding opposing_order
  opposing_timed e f l = rw (le-ltb e m.effects l, not_clock i h) refl

  opposing_other : (e f : ℕ) → m.effects ≤ f → opposing_order M x i k e f ≡ 0
  unfolding opposing_order
  opposing_other e f l =
      second_fails (eqb (M.effect_step e) i) (eqb (M.effect_step f) k) (opposes M e (M.effect_fact f) (M.effect_value f))
      (ltb (effect_tick M x e) (effect_tick M x f)) (strictly (M.effect_at e) (M.effect_at f))
      (rw (le-ltb f m.effects l) (not_clock k g))

  opposing_same : (e f : ℕ) → e < m.effects → f < m.effects → opposing_order M x i k e f ≡ opposing_order m x i k e f
  unfolding opposing_order
  opposing_same e f a b = rw (lt-ltb e m.effects a, lt-ltb f m.effects b) refl

  pub own_opposing : opposing_gap M x i k ≡ opposing_gap m x i k
  unfolding opposing_gap
  own_opposing =
      largest_own (λ e. largest (m.effects + m.timed) (opposing_order M x i k e)) m.effects m.timed
      (λ e l _. let n : largest (m.effects + m.timed) (opposing_order M x i k e) ≤ 0 =
      largest_le (opposing_order M x i k e) (m.effects + m.timed) 0 (λ f _. omega (arith, opposing_timed e f l)) in omega arith)
      ∙ largest_cong _ _ m.effects
      (λ e a.
      largest_own (opposing_order M x i k e) m.effects m.timed (λ f l _. opposing_other e f l)
      ∙ largest_cong _ _ m.effects (λ f b. opposing_same e f a b))

  before_timed : (c e : ℕ) → m.effects ≤ e → before_order M x i k c e ≡ 0
  unfolding before_order
  before_timed c e l = rw (le-ltb e m.effects l, not_clock i h) refl

  before_same : (c e : ℕ) → e < m.effects → before_order M x i k c e ≡ before_order m x i k c e
  unfolding before_order
  before_same c e l = rw (lt-ltb e m.effects l) refl

  after_timed : (c e : ℕ) → m.effects ≤ e → after_order M x i k c e ≡ 0
  unfolding after_order
  after_timed c e l =
      second_fails (eqb (m.condition_step c) i) (eqb (M.effect_step e) k) (opposes M e (m.condition_fact c) (m.condition_value c))
      (ltb (last_tick M x c) (effect_tick M x e)) (strictly (m.condition_to c) (M.effect_at e))
      (rw (le-ltb e m.effects l) (not_clock k g))

  after_same : (c e : ℕ) → e < m.effects → after_order M x i k c e ≡ after_order m x i k c e
  unfolding after_order
  after_same c e l = rw (lt-ltb e m.effects l) refl

  pub own_condition : condition_gap M x i k ≡ condition_gap m x i k
  unfolding condition_gap
  own_condition =
      largest_cong _ _ m.conditions
      (λ c _.
      ap₂ max
      (largest_own (before_order M x i k c) m.effects m.timed (λ e l _. before_timed c e l)
      ∙ largest_cong _ _ m.effects (λ e l. before_same c e l))
      (largest_own (after_order M x i k c) m.effects m.timed (λ e l _. after_timed c e l)
      ∙ largest_cong _ _ m.effects (λ e l. after_same c e l)))
