-- Between crates: uses of one level by one step at one tick, among the places of the levels' groups.
use Rattle.std.specs.Prelude.{ℕ, ◌+◌, ◌≤◌, ◌<◌, ◌≡◌, List, length, get_or}
use Rattle.timeline.specs.Words.{step_at, tick_at}
use Rattle.opposing.specs.Against.{Rising}

-- no point from place low on, before place q, has the tick and the step of the point at q
abbrev pub Single : List ℕ → ℕ → ℕ → Type 0
Single points low q = (p : ℕ) → low ≤ p → p < q → tick_at points p ≡ tick_at points q → step_at points p ≡ step_at points q → ⊥

-- no two points from a place to another have one tick and one step
abbrev pub StepsApart : List ℕ → ℕ → ℕ → Type 0
StepsApart points low high = (q : ℕ) → q < high → Single points low q

-- the groups of the levels lie within the list of points, each in the order of its ticks
pub record LevelsListed (facts levels : ℕ) (points begins : List ℕ) : Type 0 where
  pub room : facts + facts + levels < length begins
  pub ends : (l : ℕ) → l < levels → get_or begins (facts + facts + l + 1) 0 ≤ length points
  pub rises : (l : ℕ) → l < levels → Rising points (get_or begins (facts + facts + l) 0) (get_or begins (facts + facts + l + 1) 0)

-- no step uses a level twice at one tick
abbrev pub LevelsApart : ℕ → ℕ → List ℕ → List ℕ → Type 0
LevelsApart facts levels points begins =
    (l : ℕ) → l < levels → StepsApart points (get_or begins (facts + facts + l) 0) (get_or begins (facts + facts + l + 1) 0)
