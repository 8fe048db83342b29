-- Between crates: what stands against a value and a step among the points of a group.
use Rattle.std.specs.Prelude.{ℕ, ◌+◌, ◌-◌, ◌≤◌, ◌<◌, ◌≡◌, Bool, true, false, not, ◌&&◌, List, length, get_or, eqb}
use Rattle.timeline.specs.Words.{word_step, word_value, tick_at, value_at}

-- a point of another step with another value
unfoldable pub against : ℕ → ℕ → ℕ → Bool
against word value step = not (eqb (word_step word) step) && not (eqb (word_value word) value)

-- the first groups, as many as there are facts, lie within the list of points
abbrev pub FactsListed : ℕ → List ℕ → List ℕ → Type 0
FactsListed facts points begins =
    (facts < length begins) × ((f : ℕ) → f < facts → get_or begins (f + 1) 0 ≤ length points)

-- of neighbours at one tick, both have one value
abbrev pub Unmixed : List ℕ → ℕ → ℕ → Type 0
Unmixed points low high =
    (p : ℕ) → low < p → p < high → tick_at points (p - 1) ≡ tick_at points p → value_at points (p - 1) ≡ value_at points p

abbrev pub FactsUnmixed : ℕ → List ℕ → List ℕ → Type 0
FactsUnmixed facts points begins = (f : ℕ) → f < facts → Unmixed points (get_or begins f 0) (get_or begins (f + 1) 0)

-- the ticks from a place to another do not fall
abbrev pub Rising : List ℕ → ℕ → ℕ → Type 0
Rising points low high = (p q : ℕ) → low ≤ p → p < q → q < high → tick_at points p ≤ tick_at points q

-- from a place up to another, all points have one value
abbrev pub OfValue : List ℕ → ℕ → ℕ → ℕ → Type 0
OfValue points from to value = (p : ℕ) → from ≤ p → p < to → value_at points p ≡ value

-- whether a point from place `from` on, up to tick `last`, stands against the value and the step
pub record Scanned (points : List ℕ) (from high last value step : ℕ) (r : Bool) : Type 0 where
  pub hit :
      r ≡ true → (p : ℕ) × (from ≤ p) × (p < high) × (tick_at points p ≤ last) × (against (get_or points p 0) value step ≡ true)
  pub none : r ≡ false → (p : ℕ) → from ≤ p → p < high → tick_at points p ≤ last → against (get_or points p 0) value step ≡ false

-- every point from place `from` on lies after tick `last`
abbrev pub Past : List ℕ → ℕ → ℕ → ℕ → Type 0
Past points from high last = (p : ℕ) → from ≤ p → p < high → last < tick_at points p
