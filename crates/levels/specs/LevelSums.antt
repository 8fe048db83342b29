-- Between crates: what the uses of a level before a place add to it and take from it.
use Rattle.std.specs.Prelude.{ℕ, ◌+◌, ◌*◌, ◌≤◌, ◌<◌, ◌≡◌, Bool, ◌&&◌, cond, List, length, leb}
use Rattle.laws.specs.Fold.{sum}
use Rattle.little_endian.specs.Bytes.{sign_bias}
use Rattle.job.specs.Model.{Model}
use Rattle.timeline.specs.Words.{number_at, tick_at}
use Rattle.timeline.specs.Placed.{Placed, place_limit}
use Rattle.validity.specs.Ticks.{use_tick}
use Rattle.validity.specs.Levels.{rise, fall}
use Rattle.points.specs.Points.{Using}
use Rattle.levels.specs.declared.bounds.Sums.{Sums}

-- no sum of rises or of falls, at most 2^31 a place, exceeds this
abbrev pub sum_limit : ℕ
sum_limit = sign_bias * place_limit

-- the uses of level l stand from place low to high
abbrev pub UsesPlaced : Model → (ℕ → ℕ) → ℕ → List ℕ → ℕ → ℕ → Type 0
UsesPlaced m x l points low high = Placed (Using m l) (use_tick m x) (λ _. 0) m.use_step points low high

-- places of a list of points
pub record Stretch (points : List ℕ) (low high : ℕ) : Type 0 where
  pub begins : low ≤ high
  pub ends : high ≤ length points
  pub few : high < place_limit

-- what the records from place low up to another add up to
abbrev pub sum_from : ℕ → (ℕ → ℕ) → List ℕ → ℕ → ℕ
sum_from low g points place = sum place (λ q. cond (leb low q) (g (number_at points q)) 0)

-- the rises and falls from place low up to that of the sums
pub record Summed (m : Model) (points : List ℕ) (low high : ℕ) (sums : Sums) : Type 0 where
  pub begins : low ≤ sums.place
  pub ends : sums.place ≤ high
  pub rising : sums.rises ≡ sum_from low (rise m) points sums.place
  pub falling : sums.falls ≡ sum_from low (fall m) points sums.place
  pub few : (sums.rises ≤ sign_bias * sums.place) × (sums.falls ≤ sign_bias * sums.place)

-- use u came in at the place of the sums
pub record Added (m : Model) (u : ℕ) (before after : Sums) : Type 0 where
  pub place : after.place ≡ before.place + 1
  pub rising : after.rises ≡ before.rises + rise m u
  pub falling : after.falls ≡ before.falls + fall m u
  pub few : (after.rises ≤ before.rises + sign_bias) × (after.falls ≤ before.falls + sign_bias)

-- the sums with all uses at the tick of the first use that the sums before leave out
pub record SummedTick (m : Model) (points : List ℕ) (high : ℕ) (before after : Sums) : Type 0 where
  pub summed : (low : ℕ) → Summed m points low high before → Summed m points low high after
  pub further : before.place < after.place
  pub same : (q : ℕ) → before.place ≤ q → q < after.place → tick_at points q ≤ tick_at points before.place
  pub later : after.place < high → tick_at points before.place < tick_at points after.place

-- the level from earlier ticks bears all of a tick's falls, and all of its rises: before are the sums up to it, after those with it
abbrev pub in_bounds : Model → ℕ → Sums → Sums → Bool
in_bounds m l before after =
    leb (m.level_least l + after.falls) (m.level_initial l + before.rises)
    && leb (m.level_initial l + after.rises) (m.level_most l + before.falls)
