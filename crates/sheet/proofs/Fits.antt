-- The text of every order file within the limits fits a buffer of 164771 bytes.
use Prim.Native.Nat.{ℕ, zero, suc, ◌*◌, ◌-◌, ◌≤◌, ◌<◌}
use mathlib.Core.List.{List}
use native.Mathlib.Nat.{mul-suc}
use native.Mathlib.Decide.{dec_lt}
use native.Mathlib.Omega.{arith}
use lib.ListN.{length, length-append}
use Rattle.laws.specs.Listed.{concatenate}
use Rattle.order_file.specs.Contents.{Contents, step_limit, order_limit, no_latest, gap_bias}
use Rattle.order_file.specs.Within.{Within}
use Rattle.sheet.specs.Text.{gap_text, latest_text, head_line, window_line, order_line, sheet_text, head_most, window_most, order_most, sheet_most}
use Rattle.text.proofs.Decimal.{length_decimal}
use Rattle.sheet.proofs.Forms.{gap_below, gap_above, latest_none, latest_some}

-- parts of at most w bytes each
length_parts : (f : ℕ → List ℕ) (w n : ℕ) → ((k : ℕ) → k < n → length (f k) ≤ w) → length (concatenate n f) ≤ w * n
unfolding concatenate
length_parts f w zero h = omega arith
length_parts f w (suc n) h =
    let e : length (concatenate n f) ≤ w * n = length_parts f w n (λ k l. h k (omega arith)) in
    rw (length-append, mul-suc) (omega (arith, h n (omega arith)))

length_latest : (latest : ℕ) → latest ≤ no_latest → length (latest_text latest) ≤ 10
length_latest latest h =
    elim (dec_lt latest no_latest) [
      | yes l ↦ rw (latest_some latest (omega arith)) (length_decimal latest (omega arith))
      | no l ↦ rw (latest_none latest (omega arith)) (omega arith)
    ]

length_gap : (gap : ℕ) → gap < 4294967296 → length (gap_text gap) ≤ 11
length_gap gap h =
    elim (dec_lt gap gap_bias) [
      | yes l ↦ rw (gap_below gap l) (omega (arith, length_decimal (gap_bias - gap) (omega arith)))
      | no l ↦ rw (gap_above gap (omega arith)) (omega (arith, length_decimal (gap - gap_bias) (omega arith)))
    ]

module _ (c : Contents) (w : Within c) where
  length_head : length (head_line c) ≤ head_most
  unfolding head_line
  length_head =
      simp length-append
      (omega (
        arith,
        length_decimal c.steps (omega (arith, w.steps)),
        length_decimal c.rounds (omega (arith, w.steps, w.rounds)),
      ))

  length_window : (k : ℕ) → k < c.steps → length (window_line c k) ≤ window_most
  unfolding window_line
  length_window k h =
      let most = w.latest_most k h in
      let by = w.by_latest k h in
      simp length-append
      (omega (
        arith,
        length_decimal k (omega (arith, w.steps)),
        length_decimal (c.earliest k) (omega arith),
        length_latest (c.latest k) most,
      ))

  length_order : (k : ℕ) → k < c.orders → length (order_line c k) ≤ order_most
  unfolding order_line
  length_order k h =
      simp length-append
      (omega (
        arith,
        length_decimal (c.first k) (omega (arith, w.steps, w.first_counted k h)),
        length_decimal (c.second k) (omega (arith, w.steps, w.second_counted k h)),
        length_gap (c.gap k) (omega (arith, w.gap_most k h)),
      ))

  pub sheet_fits : length (sheet_text c) ≤ sheet_most step_limit order_limit
  unfolding sheet_text
  sheet_fits =
      simp length-append
      (omega (
        arith,
        w.steps,
        w.orders,
        length_head,
        length_parts (window_line c) window_most c.steps length_window,
        length_parts (order_line c) order_most c.orders length_order,
      ))
