-- Between crates: lists of starts, how high they are, the earliest limits and the latest starts.
use Rattle.std.specs.Prelude.{ℕ, ◌≤◌, ◌<◌, ◌≡◌, List, length}
use Rattle.job.specs.Model.{Model}
use Rattle.job.specs.Clocked.{clocked}
use Rattle.order_file.specs.Table.{row_width, start_in}
use Rattle.links.specs.LinkList.{LinksOf}
use Rattle.limits.specs.Timed.{ClockLimits, ClockLatest}
use Rattle.orders.specs.Windows.{limit_of, latest_of}

-- a whole list of starts, none of the first n above a bound
pub record Bounded (n bound : ℕ) (starts : List ℕ) : Type 0 where
  pub size : length starts ≡ row_width
  pub most : (k : ℕ) → k < n → start_in starts k ≤ bound

-- the earliest limits of every schedule that leaves the clock's limits
abbrev pub Limits : Model → List ℕ → List ℕ → Type 0
Limits m clock limits =
    (x : ℕ → ℕ) → ClockLimits m x clock → (k : ℕ) → k < m.steps → start_in limits k ≡ limit_of (clocked m) x k

-- the latest starts of every schedule whose links these are and that leaves the clock's latest starts
abbrev pub LatestStarts : Model → List ℕ → List ℕ → List ℕ → Type 0
LatestStarts m links clock starts =
    (x : ℕ → ℕ) → LinksOf (clocked m) x links → ClockLatest m x clock → (k : ℕ) → k < m.steps
    → start_in starts k ≡ latest_of (clocked m) x k
