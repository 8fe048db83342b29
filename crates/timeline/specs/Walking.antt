-- Inner: what a walk along a group knows where it stands.
use Rattle.std.specs.Prelude.{ℕ, ◌-◌, ◌≤◌, ◌<◌, ◌≡◌, List, length}
use Rattle.timeline.specs.declared.walk.Cursor.{Cursor}
use Rattle.timeline.specs.Words.{tick_at, value_at}
use Rattle.timeline.specs.Placed.{Run}

-- the ticks from low to high do not fall, all before the cursor are before tick t, and its run ends there
pub record Walking (points : List ℕ) (low high t : ℕ) (cursor : Cursor) : Type 0 where
  pub ends : high ≤ length points
  pub rises : (p q : ℕ) → low ≤ p → p < q → q < high → tick_at points p ≤ tick_at points q
  pub from : low ≤ cursor.place
  pub to : cursor.place ≤ high
  pub before : (p : ℕ) → low ≤ p → p < cursor.place → tick_at points p < t
  pub run : Run points low cursor.place cursor.run

-- the points from place `run` up to place `at` have the value of the last of them
pub record Alike (points : List ℕ) (low at run : ℕ) : Type 0 where
  pub from : low ≤ run
  pub some : run < at
  pub alike : (p : ℕ) → run ≤ p → p < at → value_at points p ≡ value_at points (at - 1)
