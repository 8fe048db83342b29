-- Inner: rounds over the starts, and the latest starts lowered goal by goal.
use Rattle.std.specs.Prelude.{ℕ, ◌+◌, ◌≤◌, ◌<◌, min, ◌≡◌, cond, List, length, eqb}
use Rattle.laws.specs.Fold.{least}
use Rattle.job.specs.Model.{Model}
use Rattle.job.specs.Clocked.{clocked}
use Rattle.job.specs.WellFormed.{WellFormed}
use Rattle.order_file.specs.Table.{row_width, start_in}
use Rattle.order_file.specs.Contents.{no_latest}
use Rattle.links.specs.LinkList.{LinksOf}
use Rattle.rounds.specs.Rounds.{demand}
use Rattle.orders.specs.Windows.{allowed, clock_latest}

-- a number above every start in a round: as many rounds as steps, from limits of at most 1,100,001, stay below it; and so low that no
-- start with an entry for no order reaches the bias of the entries
abbrev pub above_starts : ℕ
above_starts = 8388608

-- starts x that give every step what those steps demand which start as they did before the last round, in last
pub record Given (n : ℕ) (gap : ℕ → ℕ → ℕ) (bias : ℕ) (last x : ℕ → ℕ) : Type 0 where
  pub given : (i k : ℕ) → i < n → k < n → last i ≡ x i → demand gap bias i k (x i) ≤ x k

-- the written start of a fixed step, else `none`
abbrev pub fixed_start : Model → ℕ → ℕ → ℕ
fixed_start m none k = cond (eqb (m.fixed k) 1) (m.start k) none

-- those of all steps, with a list for `none`
pub record FixedStarts (m : Model) (clock starts : List ℕ) : Type 0 where
  pub size : length starts ≡ row_width
  pub each : (k : ℕ) → k < m.steps → start_in starts k ≡ fixed_start m (start_in clock k) k

-- the latest start of a free step by the first g goals and by timed facts
abbrev pub free_latest : Model → (ℕ → ℕ) → ℕ → ℕ → ℕ
free_latest m x g k = min (least g no_latest (allowed (clocked m) x k)) (clock_latest (clocked m) x k)

-- the latest starts by the first g goals
pub record LatestBy (m : Model) (x : ℕ → ℕ) (g : ℕ) (starts : List ℕ) : Type 0 where
  pub each : (k : ℕ) → k < m.steps → start_in starts k ≡ fixed_start m (free_latest m x g k) k

-- a job, its links, and a whole list of starts
pub record Lowering (m : Model) (links starts : List ℕ) : Type 0 where
  pub form : WellFormed m
  pub room : m.conditions + m.goals ≤ length links
  pub size : length starts ≡ row_width

-- a list lowered by goal g
pub record Lowered (m : Model) (links : List ℕ) (g : ℕ) (before after : List ℕ) : Type 0 where
  pub size : length after ≡ row_width
  pub goal : (x : ℕ → ℕ) → LinksOf (clocked m) x links → LatestBy m x g before → LatestBy m x (g + 1) after
