-- Orders ascend from each to every later one, so that no pair of steps stands twice.
use Prim.Native.Nat.{ℕ, zero, suc, ◌<◌}
use mathlib.Core.Path.{◌≡◌, sym, subst}
use mathlib.Core.Logic.{inl, inr, ⊎_elim}
use native.Mathlib.Nat.{not-suc-le-zero}
use native.Mathlib.Numerals.{add-one}
use native.Mathlib.Omega.{arith}
use Rattle.laws.proofs.Search.{last_or_below}
use Rattle.order_file.specs.Contents.{Contents}
use Rattle.order_file.specs.Within.{Before, Within}

before_trans : (c : Contents) (i j k : ℕ) → Before c i j → Before c j k → Before c i k
before_trans c i j k p q =
    ⊎_elim
    (λ (a : c.first i < c.first j).
    ⊎_elim
    (λ (b : c.first j < c.first k). inl (omega arith))
    (λ (b : (c.first j ≡ c.first k) × (c.second j < c.second k)). inl (omega arith))
    q)
    (λ (a : (c.first i ≡ c.first j) × (c.second i < c.second j)).
    ⊎_elim
    (λ (b : c.first j < c.first k). inl (omega arith))
    (λ (b : (c.first j ≡ c.first k) × (c.second j < c.second k)). inr (omega arith, omega arith))
    q)
    p

pub pairs_ascend : (c : Contents) → Within c → (i j : ℕ) → i < j → j < c.orders → Before c i j
pairs_ascend c w i zero h l = absurd (not-suc-le-zero h)
pairs_ascend c w i (suc m) h l =
    let next : Before c m (suc m) = subst (λ (j : ℕ). Before c m j) (add-one m) (w.ascending m (omega arith)) in
    ⊎_elim
    (λ (q : i ≡ m). subst (λ (k : ℕ). Before c k (suc m)) (sym q) next)
    (λ (g : i < m). before_trans c i m (suc m) (pairs_ascend c w i m g (omega arith)) next)
    (last_or_below h)
