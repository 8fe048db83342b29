-- Inner: the bytes of the tables of facts, levels and steps.
use Rattle.std.specs.Prelude.{ℕ, ◌/◌, List, [], ◌∷◌, length, get_or}
use Rattle.std.proofs.Math.Seq.{slice}
use Rattle.laws.specs.Listed.{concatenate}
use Rattle.job_encoding.specs.Encode.{level_row, step_row}
use Rattle.job_notes.specs.Tables.{initial_noted, amount_noted, step_noted}
use Rattle.supplied.specs.Job.{level_from}

-- the bytes of a fact that is listed, of a level with a listed amount, and of a step
unfoldable pub byte_in : List ℕ → ℕ → List ℕ
byte_in list f = get_or list f 0 ∷ []

unfoldable pub level_in : List ℕ → ℕ → List ℕ
level_in list l = level_row (level_from (get_or list l 0))

-- of a fact, and of a level, as notes say
unfoldable pub given_in : (said numbers : List ℕ) → ℕ → List ℕ
given_in said numbers f = initial_noted (slice 0 (length said) said) (slice 0 (length said) numbers) f ∷ []

unfoldable pub stock_in : (said numbers : List ℕ) → ℕ → List ℕ
stock_in said numbers l = level_row (level_from (amount_noted (slice 0 (length said) said) (slice 0 (length said) numbers) l))

unfoldable pub step_in : List ℕ → ℕ → List ℕ
step_in plan s = step_row (step_noted plan s)

-- the tables of facts, of levels and of steps
abbrev pub given_bytes : ℕ → (said numbers : List ℕ) → List ℕ
given_bytes facts said numbers = concatenate facts (given_in said numbers)

abbrev pub stock_bytes : ℕ → (said numbers : List ℕ) → List ℕ
stock_bytes levels said numbers = concatenate levels (stock_in said numbers)

abbrev pub step_bytes : List ℕ → List ℕ
step_bytes plan = concatenate (length plan / 3) (step_in plan)
