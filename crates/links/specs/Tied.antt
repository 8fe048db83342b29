-- Inner: the tie with which a run begins, and which of its points a condition takes. No caller has to believe it.
use Rattle.std.specs.Prelude.{ℕ, ◌+◌, ◌≤◌, ◌<◌, ◌≡◌, List, length, get_or}
use Rattle.timeline.specs.Words.{step_span, step_at, tick_at}
use Rattle.orders.specs.Supporter.{TieTo}
use Rattle.links.specs.declared.tie.Tie.{Tie}

-- the points from place `from` up to `end` have one tick
pub record OneTick (points : List ℕ) (from end : ℕ) : Type 0 where
  pub same : (p : ℕ) → from ≤ p → p < end → tick_at points p ≡ tick_at points from

-- they are a tie: the next one, below high, has another
pub record Tied (points : List ℕ) (from high end : ℕ) : Type 0 where
  pub some : from < end
  pub to : end ≤ high
  pub alike : OneTick points from end
  pub other : end < high → tick_at points end ≡ tick_at points from → ⊥

-- the list holds, for the step of each of them, the place of its first
pub record Firsts (points : List ℕ) (from end : ℕ) (firsts : List ℕ) : Type 0 where
  pub first :
      (p : ℕ) → from ≤ p → p < end
      → (from ≤ get_or firsts (step_at points p) 0) × (get_or firsts (step_at points p) 0 ≤ p)
      × (step_at points (get_or firsts (step_at points p) 0) ≡ step_at points p)

-- so does a list of a place for each step, for a tie of several points
pub record Noted (points : List ℕ) (tie : Tie) (firsts : List ℕ) : Type 0 where
  pub begins : tie.from ≤ tie.end
  pub ends : tie.end ≤ length points
  pub size : length firsts ≡ step_span
  pub several : tie.from + 1 < tie.end → Firsts points tie.from tie.end firsts

-- a tie below high that is noted, or one of no points
pub record TieKnown (points : List ℕ) (high : ℕ) (tie : Tie) (firsts : List ℕ) : Type 0 where
  pub noted : Noted points tie firsts
  pub whole : tie.from < tie.end → Tied points tie.from high tie.end

-- the one at place `run`, where a point stands there
pub record TieAt (points : List ℕ) (high run : ℕ) (tie : Tie) (firsts : List ℕ) : Type 0 where
  pub known : TieKnown points high tie firsts
  pub begins : tie.from ≡ run
  pub some : run < high → run < tie.end

-- place r is that of a tie's point to which the tie goes, of a condition of a step; that of a tie of no points is where it begins
pub record OwnPlace (points : List ℕ) (from end step r : ℕ) : Type 0 where
  pub begins : from ≤ r
  pub ends : from < end → r < end
  pub first : (p : ℕ) → from ≤ p → p < end → TieTo (λ q. step_at points q ≡ step) r p
