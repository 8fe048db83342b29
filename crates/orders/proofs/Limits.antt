-- What the limits of a step say: a fixed step's are its written start, a goal's link bounds its own step, and so do timed facts.
use Prim.Native.Nat.{ℕ, ◌-◌, min}
use mathlib.Core.Path.{◌≡◌, refl}
use borrow.Author.Tests.{eq-eqb, ne_eqb}
use Rattle.laws.specs.Fold.{least}
use Rattle.job.specs.Model.{Model}
use Rattle.job.specs.Model.{no_deadline}
use Rattle.order_file.specs.Contents.{initial_state, no_latest, gap_bias}
use Rattle.orders.specs.Links.{goal_link}
use Rattle.orders.specs.Windows.{clock_gap, clock_limit, clock_latest, limit_of, allowed, latest_of}

module _ (m : Model) (x : ℕ → ℕ) where
  pub limit_fixed : (k : ℕ) → m.fixed k ≡ 1 → limit_of m x k ≡ m.start k
  unfolding limit_of
  limit_fixed k f = rw (eq-eqb _ _ f)

  pub limit_free : (k : ℕ) → (m.fixed k ≡ 1 → ⊥) → limit_of m x k ≡ clock_gap m x m.steps k - gap_bias
  unfolding limit_of clock_limit
  limit_free k f = rw (ne_eqb _ _ f)

  pub latest_fixed : (k : ℕ) → m.fixed k ≡ 1 → latest_of m x k ≡ m.start k
  unfolding latest_of
  latest_fixed k f = rw (eq-eqb _ _ f)

  pub latest_free : (k : ℕ) → (m.fixed k ≡ 1 → ⊥) → latest_of m x k ≡ min (least m.goals no_latest (allowed m x k)) (clock_latest m x k)
  unfolding latest_of
  latest_free k f = rw (ne_eqb _ _ f)

  -- no timed fact bounds a step from above, or the tightest does
  pub clock_unbound : (k : ℕ) → clock_gap m x k m.steps ≡ 0 → clock_latest m x k ≡ no_latest
  unfolding clock_latest
  clock_unbound k e = rw (eq-eqb _ _ e)

  pub clock_bound : (k : ℕ) → (clock_gap m x k m.steps ≡ 0 → ⊥) → clock_latest m x k ≡ gap_bias - clock_gap m x k m.steps
  unfolding clock_latest
  clock_bound k n = rw (ne_eqb _ _ n)

  pub allowed_linked :
      (g : ℕ) → (m.goal_deadline g ≡ no_deadline → ⊥) → (goal_link m x g ≡ initial_state → ⊥)
      → allowed m x (m.effect_step (goal_link m x g)) g ≡ m.goal_deadline g - m.effect_at (goal_link m x g)
  unfolding allowed
  allowed_linked g d n =
      let k = m.effect_step (goal_link m x g) in
      rw (ne_eqb _ _ d, ne_eqb _ _ n, eq-eqb k k refl)
