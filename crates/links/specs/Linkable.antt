-- Between crates: what the links of a valid schedule are found from, and what is found.
use Rattle.std.specs.Prelude.{ℕ, ◌+◌, ◌≤◌, List, length}
use Rattle.laws.specs.Listed.{Filled}
use Rattle.job.specs.Model.{Model}
use Rattle.job.specs.Clocked.{ClockedForm}
use Rattle.validity.specs.Valid.{Valid}
use Rattle.points.specs.Points.{PointsKnown}
use Rattle.orders.specs.Links.{nth_link}

-- the points of some valid schedule
abbrev pub OfValid : Model → List ℕ → List ℕ → Type 0
OfValid m points begins = (x : ℕ → ℕ) × PointsKnown m x points begins × Valid m x

-- those of a well-formed job with its timed facts among its effects, and a list with room for all links
pub record Linkable (m : Model) (points begins links : List ℕ) : Type 0 where
  pub form : ClockedForm m
  pub some : OfValid m points begins
  pub room : m.conditions + m.goals ≤ length links

-- of every valid schedule that has these points, the links of the conditions, then of the goals, now begin the list
abbrev pub LinksFound : Model → List ℕ → List ℕ → List ℕ → List ℕ → Type 0
LinksFound m points begins before after =
    (x : ℕ → ℕ) → PointsKnown m x points begins → Valid m x → Filled (m.conditions + m.goals) (nth_link m x) before after
