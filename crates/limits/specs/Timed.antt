-- Between crates: what the limits that timed facts give are found from, and what they are.
use Rattle.std.specs.Prelude.{ℕ, ◌+◌, ◌≤◌, ◌<◌, ◌≡◌, List, length}
use Rattle.job.specs.Model.{Model, last_timed}
use Rattle.job.specs.WellFormed.{WellFormed}
use Rattle.job.specs.Clocked.{clocked}
use Rattle.validity.specs.Ticks.{schedule_of}
use Rattle.validity.specs.Valid.{Valid}
use Rattle.points.specs.Points.{PointsKnown}
use Rattle.links.specs.LinkList.{LinksOf}
use Rattle.orders.specs.Windows.{clock_limit, clock_latest}
use Rattle.order_file.specs.Table.{row_width, start_in}

-- the points of the steps at starts that make a well-formed job with its timed facts valid; the clock starts at 0
pub record TimedPoints (m : Model) (starts points begins : List ℕ) : Type 0 where
  pub form : WellFormed m
  pub known : PointsKnown m (schedule_of starts) points begins
  pub valid : Valid (clocked m) (schedule_of starts)
  pub clock : schedule_of starts m.steps ≡ 0

-- the links of that schedule
pub record TimedLinks (m : Model) (starts links : List ℕ) : Type 0 where
  pub linked : LinksOf (clocked m) (schedule_of starts) links
  pub room : m.conditions + m.goals ≤ length links

-- a whole list of starts that are all the same
pub record AllAre (start : ℕ) (starts : List ℕ) : Type 0 where
  pub size : length starts ≡ row_width
  pub each : (k : ℕ) → k < row_width → start_in starts k ≡ start

-- the highest limit that a timed fact gives
abbrev pub most_limit : ℕ
most_limit = last_timed + 1

-- the earliest limits that timed facts leave the steps
pub record ClockLimits (m : Model) (x : ℕ → ℕ) (limits : List ℕ) : Type 0 where
  pub size : length limits ≡ row_width
  pub each : (k : ℕ) → k < m.steps → start_in limits k ≡ clock_limit (clocked m) x k
  pub most : (k : ℕ) → k < m.steps → start_in limits k ≤ most_limit

-- the latest starts that they leave them
pub record ClockLatest (m : Model) (x : ℕ → ℕ) (latest : List ℕ) : Type 0 where
  pub size : length latest ≡ row_width
  pub each : (k : ℕ) → k < m.steps → start_in latest k ≡ clock_latest (clocked m) x k
