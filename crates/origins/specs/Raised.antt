-- Between crates: the table of gaps raised.
use Rattle.std.specs.Prelude.{ℕ, ◌+◌, ◌≤◌, ◌<◌, max, ◌≡◌, ◌&&◌, cond, List, eqb}
use Rattle.order_file.specs.Contents.{most_gap}
use Rattle.order_file.specs.Table.{gap_in, Gaps, row_width, table_bias, empty_limit}

-- the gaps of a single order, from i to k
abbrev pub single : ℕ → ℕ → ℕ → ℕ → ℕ → ℕ
single i k gap a b = cond (eqb i a && eqb k b) gap 0

-- what an entry of the table can be
pub record EntryKnown (entry : ℕ) : Type 0 where
  pub most : entry ≤ most_gap + table_bias
  pub low : entry ≤ table_bias → entry ≤ empty_limit

-- a table raised by f: between different steps below n the larger of before and f stays, and nothing else changes, except perhaps what
-- stands for a step and itself, which is cleared in the end
pub record Raised (n : ℕ) (f : ℕ → ℕ → ℕ) (before after : List ℕ) : Type 0 where
  pub whole : Gaps before → Gaps after
  pub below : (i k : ℕ) → i < n → k < n → (i ≡ k → ⊥) → gap_in after i k ≡ max (gap_in before i k) (f i k)
  pub rest : (i k : ℕ) → k < row_width → (i ≡ k → ⊥) → (i < n → k < n → ⊥) → gap_in after i k ≡ gap_in before i k
