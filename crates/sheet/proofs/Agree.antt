-- Contents that agree have the same text.
use Prim.Native.Nat.{ℕ, zero, suc, ◌<◌}
use mathlib.Core.Path.{◌≡◌, refl, ap, ap₂, ◌∙◌}
use mathlib.Core.List.{List, ◌++◌}
use native.Mathlib.Omega.{arith}
use Rattle.laws.specs.Listed.{concatenate}
use Rattle.order_file.specs.Contents.{Contents}
use Rattle.order_file.specs.Agree.{Agree}
use Rattle.sheet.specs.Text.{head_line, window_line, order_line, sheet_text}

same_lines : (f g : ℕ → List ℕ) (n : ℕ) → ((k : ℕ) → k < n → f k ≡ g k) → concatenate n f ≡ concatenate n g
unfolding concatenate
same_lines f g zero h = refl
same_lines f g (suc n) h = ap₂ ◌++◌ (same_lines f g n (λ k l. h k (omega arith))) (h n (omega arith))

module _ (c d : Contents) (a : Agree c d) where
  same_head : head_line c ≡ head_line d
  unfolding head_line
  same_head = cc (a.steps, a.rounds)

  same_windows : concatenate c.steps (window_line c) ≡ concatenate d.steps (window_line d)
  unfolding window_line
  same_windows =
      ap (λ n. concatenate n (window_line c)) a.steps
      ∙ same_lines (window_line c) (window_line d) d.steps (λ k h. cc (a.earliest k h, a.latest k h))

  same_orders : concatenate c.orders (order_line c) ≡ concatenate d.orders (order_line d)
  unfolding order_line
  same_orders =
      ap (λ n. concatenate n (order_line c)) a.orders
      ∙ same_lines (order_line c) (order_line d) d.orders (λ k h. cc (a.first k h, a.second k h, a.gap k h))

  pub sheet_agree : sheet_text c ≡ sheet_text d
  unfolding sheet_text
  sheet_agree = ap₂ ◌++◌ (ap₂ ◌++◌ same_head same_windows) same_orders
