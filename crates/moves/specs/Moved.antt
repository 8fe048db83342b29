-- Between crates: lists of starts moved to what orders with the clock say, each of a step k and a start.
use Rattle.std.specs.Prelude.{ℕ, ◌+◌, ◌-◌, ◌≤◌, ◌<◌, ◌≡◌, List, length, Option, Some}
use Rattle.order_file.specs.Table.{start_in}

-- the ways a start can be moved: up or down
abbrev pub Up : ℕ → ℕ → Type 0
Up a b = a ≤ b

abbrev pub Down : ℕ → ℕ → Type 0
Down a b = b ≤ a

-- a list moved to what orders say: no start moves the other way, each reaches what is said of it, and none moves further
pub record Moved (To : ℕ → ℕ → Type 0) (Order : ℕ → ℕ → Type 0) (before after : List ℕ) : Type 0 where
  pub size : length after ≡ length before
  pub moves : (k : ℕ) → To (start_in before k) (start_in after k)
  pub reaches : (k start : ℕ) → Order k start → To start (start_in after k)
  pub least :
      (k bound : ℕ) → To (start_in before k) bound → ((start : ℕ) → Order k start → To start bound) → To (start_in after k) bound

-- an order of a single step
abbrev pub Single : ℕ → ℕ → ℕ → ℕ → Type 0
Single step start k v = (step ≡ k) × (v ≡ start)

-- the orders of the numbers from low to high
abbrev pub Among : ℕ → ℕ → (ℕ → ℕ → ℕ → Type 0) → ℕ → ℕ → Type 0
Among low high Order k v = (p : ℕ) × (low ≤ p) × (p < high) × Order p k v

-- "a point strictly after tick T gives start ≥ T + 1 − point"; "one strictly before gives start ≤ T − point − 1"
abbrev pub start_after : ℕ → ℕ → ℕ
start_after tick at = tick + 1 - at

abbrev pub start_before : ℕ → ℕ → ℕ
start_before tick at = tick - (at + 1)

-- an order of a single step to come after a tick, and one to come before it, if there is one
abbrev pub After : Option ℕ → ℕ → ℕ → ℕ → ℕ → Type 0
After last step at k v = (tick : ℕ) × (last ≡ Some tick) × (step ≡ k) × (v ≡ start_after tick at)

abbrev pub Before : Option ℕ → ℕ → ℕ → ℕ → ℕ → Type 0
Before next step at k v = (tick : ℕ) × (next ≡ Some tick) × (step ≡ k) × (v ≡ start_before tick at)
