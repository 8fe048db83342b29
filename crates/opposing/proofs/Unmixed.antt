-- Neighbours of one value at one tick, pair by pair.
use Prim.Native.Nat.{ℕ, zero, suc, ◌+◌, ◌-◌, ◌≤◌, ◌<◌}
use mathlib.Core.Path.{◌≡◌, sym, ap, ◌∙◌}
use mathlib.Core.List.{List}
use native.Mathlib.Decide.{dec_lt}
use native.Mathlib.Omega.{arith}
use Rattle.timeline.specs.Words.{tick_at, value_at}
use Rattle.opposing.specs.Against.{Unmixed}

-- where no neighbours at one tick differ, no two places at one tick do
module _ (points : List ℕ) {low high : ℕ} (rises : (p q : ℕ) → low ≤ p → p < q → q < high → tick_at points p ≤ tick_at points q)
    (so : Unmixed points low high) where
  unmixed_far : (p d : ℕ) → low ≤ p → p + d < high → tick_at points p ≡ tick_at points (p + d) → value_at points p ≡ value_at points (p + d)
  unmixed_far p zero l g e = ap (value_at points) (let q : p ≡ p + 0 = omega arith in q)
  unmixed_far p (suc d) l g e =
      let last : p + suc d - 1 ≡ p + d = omega arith in
      let up : tick_at points (p + d) ≤ tick_at points (p + suc d) = rises (p + d) (p + suc d) (omega arith) (omega arith) g in
      let same : tick_at points (p + suc d - 1) ≡ tick_at points (p + d) = ap (tick_at points) last in
      let from : tick_at points p ≤ tick_at points (p + d) =
      elim (dec_lt 0 d) [
        | yes k ↦ rises p (p + d) l (omega arith) (omega arith)
        | no k ↦ let z : tick_at points p ≡ tick_at points (p + d) = ap (tick_at points) (let y : p ≡ p + d = omega arith in y) in omega arith
      ]
      in
      unmixed_far p d l (omega arith) (omega arith)
      ∙ sym (ap (value_at points) last)
      ∙ so (p + suc d) (omega arith) g (omega arith)

  pub unmixed_all : (p q : ℕ) → low ≤ p → p < q → q < high → tick_at points p ≡ tick_at points q → value_at points p ≡ value_at points q
  unmixed_all p q l g k e =
      let far : p + (q - p) ≡ q = omega arith in
      unmixed_far p (q - p) l (omega arith) (e ∙ sym (ap (tick_at points) far)) ∙ ap (value_at points) far
