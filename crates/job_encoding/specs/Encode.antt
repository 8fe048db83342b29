-- The bytes of a job file of an edition that holds a given job, with serial mark 0: "The job file".
use Rattle.std.specs.Prelude.{ℕ, zero, suc, ◌+◌, ◌%◌, cond, List, [], ◌∷◌, ◌++◌, eqb, get_or}
use Rattle.laws.specs.Listed.{concatenate}
use Rattle.little_endian.specs.Bytes.{sign_bias, u32_values, u16_bytes, u32_bytes}
use Rattle.job.specs.declared.layout.Counts.{Counts}
use Rattle.job.specs.declared.records.Level.{Level}
use Rattle.job.specs.declared.records.Step.{Step}
use Rattle.job.specs.declared.records.Condition.{Condition}
use Rattle.job.specs.declared.records.Effect.{Effect}
use Rattle.job.specs.declared.records.Use.{Use}
use Rattle.job.specs.declared.records.Goal.{Goal}
use Rattle.job.specs.declared.records.TimedFact.{TimedFact}
use Rattle.job.specs.declared.records.Need.{Need}
use Rattle.job.specs.Layout.{timed_edition, needs_edition, header_width, count_list, table_at}
use Rattle.job.specs.Model.{Model, level_of, step_of, condition_of, effect_of, use_of, goal_of, timed_of, need_of}

-- a job's counts
unfoldable pub counts_in : Model → Counts
counts_in m = record {
  facts = m.facts;
  levels = m.levels;
  steps = m.steps;
  conditions = m.conditions;
  effects = m.effects;
  uses = m.uses;
  goals = m.goals;
  timed = m.timed;
  needs = m.needs;
}

-- the bits of an i32 that is given plus its bias
abbrev pub bits : ℕ → ℕ
bits biased = (biased + sign_bias) % u32_values

-- a record of each table
unfoldable pub level_row : Level → List ℕ
level_row l = u32_bytes (bits l.initial) ++ u32_bytes (bits l.least) ++ u32_bytes (bits l.most)

unfoldable pub step_row : Step → List ℕ
step_row s = u32_bytes s.start ++ u32_bytes s.length ++ u16_bytes s.fixed

unfoldable pub condition_row : Condition → List ℕ
condition_row c = u16_bytes c.step ++ u16_bytes c.fact ++ u32_bytes c.from ++ u32_bytes c.to ++ u16_bytes c.value

unfoldable pub effect_row : Effect → List ℕ
effect_row e = u16_bytes e.step ++ u16_bytes e.fact ++ u32_bytes e.at ++ u16_bytes e.value

unfoldable pub use_row : Use → List ℕ
use_row u = u16_bytes u.step ++ u16_bytes u.level ++ u32_bytes u.at ++ u32_bytes (bits u.amount)

unfoldable pub goal_row : Goal → List ℕ
goal_row g = u16_bytes g.fact ++ u16_bytes g.value ++ u32_bytes g.deadline

unfoldable pub timed_row : TimedFact → List ℕ
timed_row f = u16_bytes f.fact ++ u32_bytes f.tick ++ u16_bytes f.value

unfoldable pub need_row : Need → List ℕ
need_row n = u16_bytes n.step ++ u16_bytes n.level ++ u32_bytes n.at ++ u32_bytes (bits n.least)

-- the records of a list, one after the other
unfoldable pub rows : {A : Type 0} → (A → List ℕ) → List A → List ℕ
rows f [] = []
rows f (a ∷ l) = f a ++ rows f l

-- record k of table t, the tables in their order
abbrev pub rows_of : Model → ℕ → List (List ℕ)
rows_of m k =
    (m.initial k ∷ []) ∷ level_row (level_of m k) ∷ step_row (step_of m k) ∷ condition_row (condition_of m k) ∷ effect_row (effect_of m k)
    ∷ use_row (use_of m k)
    ∷ goal_row (goal_of m k)
    ∷ timed_row (timed_of m k)
    ∷ need_row (need_of m k)
    ∷ []

unfoldable pub record_bytes : Model → ℕ → ℕ → List ℕ
record_bytes m t k = get_or (rows_of m k) t []

-- what editions add to the header: the offset of timed facts, then the count of needs, a zero and the offset of needs
unfoldable pub added_bytes : ℕ → Counts → List ℕ
added_bytes edition c =
    let at = table_at (header_width edition) c in
    cond (eqb edition needs_edition) (u32_bytes (at 7) ++ u16_bytes c.needs ++ u16_bytes 0 ++ u32_bytes (at 8))
    (cond (eqb edition timed_edition) (u32_bytes (at 7)) [])

-- the header: the edition, the serial mark, the counts, goals before conditions, the tables' offsets, and what its edition adds
unfoldable pub header_bytes : ℕ → Counts → List ℕ
header_bytes edition c =
    let at = table_at (header_width edition) c in
    u16_bytes edition ++ u16_bytes 0 ++ u16_bytes c.facts ++ u16_bytes c.levels ++ u16_bytes c.steps ++ u16_bytes c.goals
    ++ u16_bytes c.conditions
    ++ u16_bytes c.effects
    ++ u16_bytes c.uses
    ++ u16_bytes c.timed
    ++ u32_bytes (at 0)
    ++ u32_bytes (at 1)
    ++ u32_bytes (at 2)
    ++ u32_bytes (at 3)
    ++ u32_bytes (at 4)
    ++ u32_bytes (at 5)
    ++ u32_bytes (at 6)
    ++ added_bytes edition c

-- the file up to table t
unfoldable pub up_to_table : ℕ → Model → ℕ → List ℕ
up_to_table edition m zero = header_bytes edition (counts_in m)
up_to_table edition m (suc t) = up_to_table edition m t ++ concatenate (get_or (count_list (counts_in m)) t 0) (record_bytes m t)

-- the whole file
abbrev pub encode : ℕ → Model → List ℕ
encode edition m = up_to_table edition m 9
