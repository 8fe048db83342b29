-- Bounds in a well-formed job: no point lies further from its step's start than any gap can tell.
use Prim.Native.Nat.{ℕ, ◌+◌, ◌-◌, ◌≤◌, ◌<◌}
use mathlib.Core.Bool.{Bool, true, false, cond}
use native.Mathlib.Omega.{arith}
use Rattle.job.specs.Model.{Model, longest}
use Rattle.job.specs.Clocked.{ClockedForm}
use Rattle.order_file.specs.Contents.{gap_bias}

-- the largest gap from step i to step k that y has room for, 0 for none
abbrev pub room : (ℕ → ℕ) → ℕ → ℕ → ℕ
room y i k = y k + gap_bias - y i

-- an amount that counts or not is at most the amount
pub counted_le : (b : Bool) (a : ℕ) → cond b a 0 ≤ a
counted_le true a = omega arith
counted_le false a = omega arith

module _ (m : Model) (w : ClockedForm m) where
  pub to_near : (c : ℕ) → c < m.conditions → m.condition_to c ≤ longest
  to_near c h = omega (arith, w.condition_end c h, w.length_range (m.condition_step c) (w.condition_step c h))

  pub from_near : (c : ℕ) → c < m.conditions → m.condition_from c ≤ longest
  from_near c h = omega (arith, w.condition_span c h, to_near c h)

  pub use_near : (u : ℕ) → u < m.uses → m.use_at u ≤ longest
  use_near u h = omega (arith, w.use_end u h, w.length_range (m.use_step u) (w.use_step u h))

  pub need_near : (n : ℕ) → n < m.needs → m.need_at n ≤ longest
  need_near n h = omega (arith, w.need_end n h, w.length_range (m.need_step n) (w.need_step n h))
