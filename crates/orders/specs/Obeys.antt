-- Between crates: a choice obeys the orders and limits that are found by the ticks of the planned schedule x.
use Rattle.std.specs.Prelude.{ℕ, ◌+◌, ◌≤◌, ◌<◌, ◌≡◌}
use Rattle.job.specs.Model.{Model}
use Rattle.orders.specs.Gaps.{gap_of}
use Rattle.order_file.specs.Contents.{no_latest, gap_bias}
use Rattle.orders.specs.Windows.{limit_of, latest_of}

pub record Obeys (m : Model) (x y : ℕ → ℕ) : Type 0 where
  -- every start is at least its step's earliest limit
  pub from_limit : (k : ℕ) → k < m.steps → limit_of m x k ≤ y k
  -- at most its latest start unless that is none
  pub by_latest : (k : ℕ) → k < m.steps → (latest_of m x k ≡ no_latest → ⊥) → y k ≤ latest_of m x k
  -- every order holds
  pub keeps : (i k : ℕ) → i < m.steps → k < m.steps → (gap_of m x i k ≡ 0 → ⊥) → y i + gap_of m x i k ≤ y k + gap_bias
