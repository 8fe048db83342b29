-- Inner: what is known of a valid schedule from step to step, until it is filed.
use Rattle.std.specs.Prelude.{ℕ, ◌≤◌, ◌<◌, ◌≡◌, List, length}
use Rattle.job.specs.Model.{Model}
use Rattle.job.specs.WellFormed.{WellFormed}
use Rattle.job.specs.Clocked.{clocked}
use Rattle.validity.specs.Ticks.{schedule_of}
use Rattle.validity.specs.Valid.{Valid}
use Rattle.points.specs.Points.{PointsKnown}
use Rattle.links.specs.LinkList.{LinksOf}
use Rattle.limits.specs.Timed.{most_limit}
use Rattle.order_file.specs.Contents.{link_limit}
use Rattle.order_file.specs.Table.{row_width, start_in}
use Rattle.orders.specs.Windows.{limit_of, latest_of}
use Rattle.windows.specs.Starts.{Bounded}

-- written starts that make a well-formed job with its timed facts valid; the clock starts at 0
pub record ValidStarts (m : Model) (starts : List ℕ) : Type 0 where
  pub form : WellFormed m
  pub valid : Valid (clocked m) (schedule_of starts)
  pub written : m.steps ≤ length starts
  pub clock : schedule_of starts m.steps ≡ 0

-- the points at these starts, those of timed facts among them
pub record ValidSchedule (m : Model) (starts points begins : List ℕ) : Type 0 where
  pub valid : ValidStarts m starts
  pub known : PointsKnown (clocked m) (schedule_of starts) points begins

-- the links
pub record Timed (m : Model) (starts links : List ℕ) : Type 0 where
  pub valid : ValidStarts m starts
  pub linked : LinksOf (clocked m) (schedule_of starts) links
  pub size : length links ≡ link_limit

-- besides, the points of the steps alone
pub record Linked (m : Model) (starts points begins links : List ℕ) : Type 0 where
  pub timed : Timed m starts links
  pub known : PointsKnown m (schedule_of starts) points begins

-- the limits of the schedule, and its latest starts
pub record LimitsFound (m : Model) (x : ℕ → ℕ) (limits : List ℕ) : Type 0 where
  pub bounded : Bounded m.steps most_limit limits
  pub each : (k : ℕ) → k < m.steps → start_in limits k ≡ limit_of (clocked m) x k

pub record LatestFound (m : Model) (x : ℕ → ℕ) (latest : List ℕ) : Type 0 where
  pub size : length latest ≡ row_width
  pub each : (k : ℕ) → k < m.steps → start_in latest k ≡ latest_of (clocked m) x k
