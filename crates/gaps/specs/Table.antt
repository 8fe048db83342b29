-- Between crates: what the table of gaps is filled from, and what it then is.
use Rattle.std.specs.Prelude.{ℕ, ◌+◌, ◌≤◌, ◌<◌, ◌≡◌, List, length, get_or}
use Rattle.job.specs.Model.{Model}
use Rattle.job.specs.WellFormed.{WellFormed}
use Rattle.job.specs.Clocked.{clocked}
use Rattle.points.specs.Points.{PointsKnown}
use Rattle.validity.specs.Valid.{Valid}
use Rattle.links.specs.LinkList.{LinksOf}
use Rattle.order_file.specs.Table.{gap_in, Gaps, row_width, table_size}

-- a valid schedule whose steps' points are listed and whose links, to timed facts too, are found, and an empty table
pub record Fillable (m : Model) (x : ℕ → ℕ) (points begins links gaps : List ℕ) : Type 0 where
  pub form : WellFormed m
  pub known : PointsKnown m x points begins
  pub valid : Valid (clocked m) x
  pub linked : LinksOf (clocked m) x links
  pub room : m.conditions + m.goals ≤ length links
  pub size : length gaps ≡ table_size
  pub empty : (p : ℕ) → get_or gaps p 0 ≡ 0

-- the table of the gaps between n steps, and of nothing else
pub record TableOf (n : ℕ) (gap : ℕ → ℕ → ℕ) (gaps : List ℕ) : Type 0 where
  pub whole : Gaps gaps
  pub below : (i k : ℕ) → i < n → k < n → gap_in gaps i k ≡ gap i k
  pub rest : (i k : ℕ) → k < row_width → (i < n → k < n → ⊥) → gap_in gaps i k ≡ 0
