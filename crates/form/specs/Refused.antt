-- Part of the promise: what refusals 1 to 7 and 17 say, in plain words.
use Rattle.std.specs.Prelude.{ℕ, ◌≤◌, ◌<◌, ◌≡◌, true, false, List, ◌⊎◌, length, get_or}
use Rattle.little_endian.specs.Bytes.{u16_at}
use Rattle.verdict.specs.Verdict.{Verdict, number, place, nowhere}
use Rattle.job.specs.declared.layout.Table.{Table}
use Rattle.job.specs.declared.layout.Table.TheVariants.{Facts, Levels, Steps, Conditions, Effects, Uses, Goals, TimedFacts, Needs}
use Rattle.job.specs.Layout.{latest_edition, timed_edition, needs_edition, shortest_header, header_width, serial_mark, highest, counts_of, count_list, job_of}
use Rattle.job.specs.Model.{Model, model_of}
use Rattle.header_check.specs.Header.{layout_agrees}
use Rattle.ranges.specs.Ranges.{count_in, record_ok}
use Rattle.against.specs.BothWays.{SetsBothWays}

-- the tables in their order
abbrev pub table_number : Table → ℕ
table_number Facts = 0
table_number Levels = 1
table_number Steps = 2
table_number Conditions = 3
table_number Effects = 4
table_number Uses = 5
table_number Goals = 6
table_number TimedFacts = 7
table_number Needs = 8

-- 6: record k of table t breaks its ranges, every lower one keeps them, and so does every record of the tables before
pub record FirstOutOfRange (m : Model) (t : Table) (k : ℕ) : Type 0 where
  pub counted : k < count_in m t
  pub broken : record_ok m t k ≡ false
  pub lower_ok : (j : ℕ) → j < k → record_ok m t j ≡ true
  pub earlier_ok : (earlier : Table) → table_number earlier < table_number t → (j : ℕ) → j < count_in m earlier → record_ok m earlier j ≡ true

-- 7: u and v are two uses of the step, of one level at one tick
pub record UsesOneTwice (m : Model) (step u v : ℕ) : Type 0 where
  pub known : (u < m.uses) × (v < m.uses)
  pub two : u ≡ v → ⊥
  pub own : (m.use_step u ≡ step) × (m.use_step v ≡ step)
  pub same_level : m.use_level u ≡ m.use_level v
  pub same_tick : m.use_at u ≡ m.use_at v

-- 7: effect e of the step opposes its condition c, from its first tick to before its last
pub record OpposesItsOwn (m : Model) (step e c : ℕ) : Type 0 where
  pub known : (e < m.effects) × (c < m.conditions)
  pub own : (m.effect_step e ≡ step) × (m.condition_step c ≡ step)
  pub same_fact : m.effect_fact e ≡ m.condition_fact c
  pub other_value : m.effect_value e ≡ m.condition_value c → ⊥
  pub from_first : m.condition_from c ≤ m.effect_at e
  pub before_last : m.effect_at e < m.condition_to c

-- a step is against itself
abbrev pub AgainstItself : Model → ℕ → Type 0
AgainstItself m step =
    ((e : ℕ) × (f : ℕ) × SetsBothWays m step e f)
    ⊎ (((u : ℕ) × (v : ℕ) × UsesOneTwice m step u v) ⊎ ((e : ℕ) × (c : ℕ) × OpposesItsOwn m step e c))

-- and no lower one is
pub record FirstAgainst (m : Model) (step : ℕ) : Type 0 where
  pub counted : step < m.steps
  pub against : AgainstItself m step
  pub no_lower : (lower : ℕ) → lower < step → AgainstItself m lower → ⊥

-- 17: timed facts j and k set a fact both ways at one tick
pub record TimedBothWays (m : Model) (j k : ℕ) : Type 0 where
  pub known : (j < m.timed) × (k < m.timed)
  pub same_fact : m.timed_fact j ≡ m.timed_fact k
  pub same_tick : m.timed_tick j ≡ m.timed_tick k
  pub other_value : m.timed_value j ≡ m.timed_value k → ⊥

-- timed fact j is the lower of two such, and no lower one is one of two
pub record FirstOfTwo (m : Model) (j : ℕ) : Type 0 where
  pub against : (k : ℕ) × (j < k) × TimedBothWays m j k
  pub no_lower : (lower k : ℕ) → lower < j → TimedBothWays m lower k → ⊥

-- the numbers of the form check in checking order: 17 comes after 7
abbrev pub FormNumber : ℕ → Type 0
FormNumber n = (n ≤ 7) ⊎ (n ≡ 17)

-- what a verdict's number and place say: its own sentence fails, and those before it hold
pub record FormRefusal (s : List ℕ) (v : Verdict) : Type 0 where
  -- too short for any header, or for that of its edition
  pub short : number v ≡ 1 → (length s < shortest_header) ⊎ (length s < header_width (u16_at s 0))
  pub long : 1 < number v → shortest_header ≤ length s
  pub long_enough : 2 < number v → header_width (u16_at s 0) ≤ length s
  pub other_edition : number v ≡ 2 → 1 ≤ u16_at s 0 → u16_at s 0 ≤ latest_edition → ⊥
  pub known_edition : 2 < number v → (1 ≤ u16_at s 0) × (u16_at s 0 ≤ latest_edition)
  -- the serial mark exceeds 1, an edition without timed facts counts some, or the one with needs has another number than 0 at byte 54
  pub mark_out :
      number v ≡ 3
      → (1 < serial_mark s) ⊎ (((u16_at s 0 < timed_edition) × (u16_at s 18 ≡ 0 → ⊥)) ⊎ ((u16_at s 0 ≡ needs_edition) × (u16_at s 54 ≡ 0 → ⊥)))
  pub marks_in : 3 < number v → (serial_mark s ≤ 1) × (u16_at s 0 < timed_edition → u16_at s 18 ≡ 0) × (u16_at s 0 ≡ needs_edition → u16_at s 54 ≡ 0)
  pub count_out : number v ≡ 4 → (t : ℕ) × (t < 9) × (get_or highest t 0 < get_or (count_list (counts_of s)) t 0)
  pub counts_in : 4 < number v → (t : ℕ) → t < 9 → get_or (count_list (counts_of s)) t 0 ≤ get_or highest t 0
  pub layout_out : number v ≡ 5 → layout_agrees s (job_of s) ≡ false
  pub layout_in : 5 < number v → layout_agrees s (job_of s) ≡ true
  pub record_out : number v ≡ 6 → (t : Table) × FirstOutOfRange (model_of s) t (place v)
  pub records_in : 6 < number v → (t : Table) (k : ℕ) → k < count_in (model_of s) t → record_ok (model_of s) t k ≡ true
  pub step_out : number v ≡ 7 → FirstAgainst (model_of s) (place v)
  pub steps_in : 7 < number v → (step : ℕ) → step < (model_of s).steps → AgainstItself (model_of s) step → ⊥
  pub timed_out : number v ≡ 17 → FirstOfTwo (model_of s) (place v)
  pub most : FormNumber (number v)
  pub unplaced : number v ≤ 5 → place v ≡ nowhere
