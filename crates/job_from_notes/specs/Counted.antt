-- Between crates: how long the tables of a job are that the notes of two texts say.
use Rattle.std.specs.Prelude.{ℕ, ◌/◌, ◌≤◌, ◌<◌, ◌≡◌, List, length, get_or}
use Rattle.spelling.specs.Tokens.{text_most}
use Rattle.supplied.specs.Job.{Tables}
use Rattle.job_notes.specs.Tables.{Sizes, tables_noted}
use Rattle.job_from_notes.specs.declared.tally.Totals.{Totals}

-- the sizes of lists that hold what they say and no more
abbrev pub sizes_in : ℕ → ℕ → List ℕ → List ℕ → Sizes
sizes_in facts levels said plan = record { facts = facts; levels = levels; steps = length plan / 3; items = length said }

abbrev pub tables_in : ℕ → ℕ → (said numbers plan acts : List ℕ) → Tables
tables_in facts levels said numbers plan acts = tables_noted (sizes_in facts levels said plan) said numbers plan acts

-- notes that can be walked: no more than a text can hold, at most 64 steps, and actions that begin among them
pub record Walked (said plan acts : List ℕ) : Type 0 where
  pub few : length said ≤ text_most
  pub steps : length plan < 195
  pub size : length acts ≡ 64
  pub inside : (s : ℕ) → s < length plan / 3 → get_or acts s 0 ≤ length said

-- the lengths of three tables, whatever the numbers of names
pub record Counted (said plan acts : List ℕ) (r : Totals) : Type 0 where
  pub conditions :
      (facts levels : ℕ) (numbers : List ℕ) → length said ≤ length numbers
      → r.conditions ≡ length (tables_in facts levels said numbers plan acts).conditions
  pub effects :
      (facts levels : ℕ) (numbers : List ℕ) → length said ≤ length numbers
      → r.effects ≡ length (tables_in facts levels said numbers plan acts).effects
  pub uses :
      (facts levels : ℕ) (numbers : List ℕ) → length said ≤ length numbers
      → r.uses ≡ length (tables_in facts levels said numbers plan acts).uses
