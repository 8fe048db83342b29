-- A schedule gives each step a start: "a point's tick is the start plus that number".
use Rattle.std.specs.Prelude.{ℕ, ◌+◌, Bool, ◌&&◌, not, List, get_or, eqb}
use Rattle.laws.specs.Listed.{tabulate}
use Rattle.job.specs.Model.{Model}

-- the schedule in a list of starts
abbrev pub schedule_of : List ℕ → ℕ → ℕ
schedule_of starts k = get_or starts k 0

-- "The job's own timing is its written starts": the planned schedule, and its list
abbrev pub planned_starts : Model → List ℕ
planned_starts m = tabulate m.steps m.start

abbrev pub planned : Model → ℕ → ℕ
planned m = schedule_of (planned_starts m)

-- the tick of an effect
abbrev pub effect_tick : Model → (ℕ → ℕ) → ℕ → ℕ
effect_tick m x e = x (m.effect_step e) + m.effect_at e

-- the first and the last tick of a condition
abbrev pub first_tick : Model → (ℕ → ℕ) → ℕ → ℕ
first_tick m x c = x (m.condition_step c) + m.condition_from c

abbrev pub last_tick : Model → (ℕ → ℕ) → ℕ → ℕ
last_tick m x c = x (m.condition_step c) + m.condition_to c

-- the tick of a use
abbrev pub use_tick : Model → (ℕ → ℕ) → ℕ → ℕ
use_tick m x u = x (m.use_step u) + m.use_at u

-- the tick of a need
abbrev pub need_tick : Model → (ℕ → ℕ) → ℕ → ℕ
need_tick m x n = x (m.need_step n) + m.need_at n

-- "An effect opposes a condition, goal or other effect on its fact if the values differ"
abbrev pub opposes : Model → ℕ → ℕ → ℕ → Bool
opposes m e fact value = eqb (m.effect_fact e) fact && not (eqb (m.effect_value e) value)

-- an effect of another step
abbrev pub of_another : Model → ℕ → ℕ → Bool
of_another m e step = not (eqb (m.effect_step e) step)

-- an effect that gives a fact a value
abbrev pub gives : Model → ℕ → ℕ → ℕ → Bool
gives m e fact value = eqb (m.effect_fact e) fact && eqb (m.effect_value e) value
