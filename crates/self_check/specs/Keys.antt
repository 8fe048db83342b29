-- Inner: what the search of refusal 7 presumes of its keys and its indexes. No caller of the form check has to believe it.
use Rattle.std.specs.Prelude.{ℕ, ◌+◌, ◌*◌, ◌%◌, ◌≤◌, ◌<◌, ◌≡◌, List}
use Rattle.timeline.specs.Indexed.{key_count, capacity, Growing}
use Rattle.job.specs.Model.{Model}

-- the key of a step with a fact or level
unfoldable pub step_key : ℕ → ℕ → ℕ
step_key step what = (8 * step + what) % key_count

-- the key of effect, condition or use k by its step
abbrev pub effect_key : Model → ℕ → ℕ
effect_key m k = step_key (m.effect_step k) (m.effect_fact k)

abbrev pub condition_key : Model → ℕ → ℕ
condition_key m k = step_key (m.condition_step k) (m.condition_fact k)

abbrev pub use_key : Model → ℕ → ℕ
use_key m k = step_key (m.use_step k) (m.use_level k)

-- a search back along the records of key f in an index that holds the first n; key is f as the code has it
pub record SearchBack (key_of : ℕ → ℕ) (n f key : ℕ) (index : List ℕ) : Type 0 where
  pub growing : Growing key_of n index
  pub few : n ≤ capacity
  pub same : key ≡ f
  pub low : key < key_count
