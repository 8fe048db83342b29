-- Between crates: links by their numbers in the file.
use Rattle.std.specs.Prelude.{ℕ, ◌+◌, ◌≤◌, ◌<◌, ◌≡◌, List, ◌⊎◌, length, get_or}
use Rattle.job.specs.declared.layout.Counts.{Counts}
use Rattle.job.specs.Layout.{most_effects, most_timed}
use Rattle.job.specs.Model.{Model}
use Rattle.order_file.specs.Contents.{initial_state}
use Rattle.orders.specs.File.{link_number}

-- counts within the highest
abbrev pub Few : Counts → Type 0
Few n = (n.effects ≤ most_effects) × (n.timed ≤ most_timed)

-- a link is an effect's number, one of a timed fact behind them, or stands for the initial state
abbrev pub LinkKnown : Counts → ℕ → Type 0
LinkKnown n link = (link < n.effects + n.timed) ⊎ (link ≡ initial_state)

-- so are those of all conditions and goals
pub record AllKnown (n : Counts) (links : List ℕ) : Type 0 where
  pub few : Few n
  pub room : n.conditions + n.goals ≤ length links
  pub each : (k : ℕ) → k < n.conditions + n.goals → LinkKnown n (get_or links k 0)

-- the first of them are numbered, and the others are as they were
pub record NumberedTo (m : Model) (n : ℕ) (before after : List ℕ) : Type 0 where
  pub size : length after ≡ length before
  pub each : (k : ℕ) → k < n → get_or after k 0 ≡ link_number m (get_or before k 0)
  pub rest : (k : ℕ) → n ≤ k → get_or after k 0 ≡ get_or before k 0

-- all of them are
pub record Numbered (m : Model) (before after : List ℕ) : Type 0 where
  pub size : length after ≡ length before
  pub each : (k : ℕ) → k < m.conditions + m.goals → get_or after k 0 ≡ link_number m (get_or before k 0)
