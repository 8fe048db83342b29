-- Between crates: lists of links.
use Rattle.std.specs.Prelude.{ℕ, ◌+◌, ◌<◌, ◌≡◌, List, get_or}
use Rattle.job.specs.Model.{Model}
use Rattle.order_file.specs.Contents.{initial_state}
use Rattle.orders.specs.Links.{nth_link}

-- a list of all links
pub record LinksOf (m : Model) (x : ℕ → ℕ) (links : List ℕ) : Type 0 where
  pub each : (k : ℕ) → k < m.conditions + m.goals → get_or links k 0 ≡ nth_link m x k

-- a list in which the link of each condition is the initial state or an effect of the job
abbrev pub Named : Model → List ℕ → Type 0
Named m links = (c : ℕ) → c < m.conditions → (get_or links c 0 ≡ initial_state → ⊥) → get_or links c 0 < m.effects
