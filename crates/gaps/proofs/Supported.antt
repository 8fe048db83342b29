-- Rule 1: the order of a condition by its link.
use Prim.Native.Nat.{ℕ, ◌≤◌, ◌<◌}
use mathlib.Core.Path.{◌≡◌, refl}
use mathlib.Core.Bool.{Bool, true, false, not, ◌&&◌, cond}
use native.Mathlib.Omega.{arith}
use borrow.Author.Tests.{ne_eqb, lt-ltb, le-ltb}
use lib.Dec.{eqb}
use Rattle.job.specs.Layout.{most_effects}
use Rattle.job.specs.Model.{Model}
use Rattle.job.specs.Clocked.{clocked}
use Rattle.order_file.specs.Contents.{initial_state}
use Rattle.orders.specs.Links.{condition_link}
use Rattle.orders.specs.Gaps.{strictly, support_order}
use Rattle.origins.specs.Raised.{single}

-- a test whose second part fails chooses nothing
second_fails : (a b c : Bool) (gap : ℕ) → b ≡ false → cond (a && b && c) gap 0 ≡ 0
second_fails true b c gap e = rw e refl
second_fails false b c gap e = refl

-- the order of a condition by its link, which the code read from the list
module _ (m : Model) (x : ℕ → ℕ) (c : ℕ) {link : ℕ} (e : link ≡ condition_link (clocked m) x c) where
  -- behind the effects stand only those of the clock
  pub support_none : m.effects ≤ link → (i k : ℕ) → i < m.steps → support_order (clocked m) x i k c ≡ 0
  unfolding support_order
  support_none h i k l =
      rw (← e, le-ltb link m.effects h)
      (second_fails (not (eqb link initial_state)) (eqb m.steps i) (eqb (m.condition_step c) k) _ (ne_eqb m.steps i (λ q. omega arith)))

  pub support_order_lem :
      {a b gap : ℕ} → link < m.effects → m.effects ≤ most_effects → a ≡ m.effect_step link → b ≡ m.condition_step c
      → gap ≡ strictly (m.effect_at link) (m.condition_from c)
      → (i k : ℕ) → single a b gap i k ≡ support_order (clocked m) x i k c
  unfolding support_order
  support_order_lem h few p q g i k =
      rw (← e, lt-ltb link m.effects h, p, q, g, ne_eqb link initial_state (λ r. omega arith))
