-- Inner: what the uses of a level before a need's tick, and at it, say of the need.
use Rattle.std.specs.Prelude.{ℕ, ◌≤◌, ◌<◌, ◌≡◌, List}
use Rattle.job.specs.Model.{Model}
use Rattle.timeline.specs.Words.{word_step, word_tick, word_number, tick_at}
use Rattle.timeline.specs.Placed.{Parted}
use Rattle.validity.specs.Ticks.{need_tick}
use Rattle.validity.specs.Levels.{unmet}
use Rattle.opposing.specs.Against.{Rising}
use Rattle.levels.specs.declared.bounds.Sums.{Sums}
use Rattle.levels.specs.LevelSums.{UsesPlaced, Stretch, Summed}
use Rattle.laws.specs.Noted.{Noted}

-- sums along the uses of a level that hold none of tick t or later
pub record Behind (m : Model) (points : List ℕ) (low high t : ℕ) (sums : Sums) : Type 0 where
  pub stretch : Stretch points low high
  pub rises : Rising points low high
  pub summed : Summed m points low high sums
  pub early : (p : ℕ) → low ≤ p → p < sums.place → tick_at points p < t

-- the need in a word, with the sums of all uses of its level before its tick
pub record NeedAt (m : Model) (x : ℕ → ℕ) (points : List ℕ) (high : ℕ) (before : Sums) (word : ℕ) : Type 0 where
  pub counted : word_number word < m.needs
  pub tick : word_tick word ≡ need_tick m x (word_number word)
  pub step : word_step word ≡ m.need_step (word_number word)
  pub low : ℕ
  pub placed : UsesPlaced m x (m.need_level (word_number word)) points low high
  pub summed : Summed m points low high before
  pub parts : Parted points low high (word_tick word) before.place

-- best is the lowest unmet need of the levels below l
abbrev pub NeedsOfLevels : Model → (ℕ → ℕ) → ℕ → ℕ → Type 0
NeedsOfLevels m x l = Noted m.needs (unmet m x) (λ n. m.need_level n < l)
