-- Between crates: the lowest index that passes, noted while the indexes are met in any order.
use Rattle.std.specs.Prelude.{ℕ, ◌≤◌, ◌<◌, ◌≡◌, Bool, true}

-- best is the lowest of the indexes met that pass, or n where none does
pub record Noted (n : ℕ) (p : ℕ → Bool) (Met : ℕ → Type 0) (best : ℕ) : Type 0 where
  pub within : best ≤ n
  pub passes : best < n → p best ≡ true
  pub least : (k : ℕ) → k < n → Met k → p k ≡ true → best ≤ k
