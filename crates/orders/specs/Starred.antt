-- Between crates: the starred cases of "A small job, and edges", and cases of timed facts: tables of jobs, each with the verdict of the
-- job check or what is filed.
use Rattle.std.specs.Prelude.{ℕ, ◌+◌, ◌*◌, ◌-◌, ◌≡◌, length, get_or, Err}
use mathlib.Core.List.{List, [], ◌∷◌, ◌++◌, foldr}
use Rattle.little_endian.specs.Bytes.{u16_bytes, u32_bytes}
use Rattle.verdict.specs.declared.Refusal.{Refusal}
use Rattle.verdict.specs.Verdict.{Accepted}
use Rattle.verdict.specs.declared.Refusal.TheVariants.{RecordOutOfRange, StepAgainstItself, EffectsConflict, ConditionFails, LevelOutOfBounds}
use Rattle.verdict.specs.declared.Refusal.TheVariants.{GoalFails, TimedFactsConflict}
use Rattle.job.specs.Model.{model_of}
use Rattle.validity.specs.Ticks.{planned}
use Rattle.validity.specs.Checks.{job_check}
use Rattle.order_file.specs.Contents.{Contents, no_latest, initial_state, gap_bias}
use Rattle.order_file.specs.Agree.{Agree}
use Rattle.orders.specs.File.{file_of}

-- a job to be written: its serial mark, and the records of each table, each as its bytes
pub record Draft : Type 0 where
  pub serial : ℕ
  pub facts : List (List ℕ)
  pub levels : List (List ℕ)
  pub steps : List (List ℕ)
  pub conditions : List (List ℕ)
  pub effects : List (List ℕ)
  pub uses : List (List ℕ)
  pub goals : List (List ℕ)
  pub timed : List (List ℕ)

-- the records of "The job file", with an i32 as its bits
unfoldable pub fact : ℕ → List ℕ
fact initial = initial ∷ []

unfoldable pub level : ℕ → ℕ → ℕ → List ℕ
level initial least most = u32_bytes initial ++ u32_bytes least ++ u32_bytes most

unfoldable pub step : ℕ → ℕ → ℕ → List ℕ
step start long fixed = u32_bytes start ++ u32_bytes long ++ u16_bytes fixed

unfoldable pub condition : ℕ → ℕ → ℕ → ℕ → ℕ → List ℕ
condition step fact from to value = u16_bytes step ++ u16_bytes fact ++ u32_bytes from ++ u32_bytes to ++ u16_bytes value

unfoldable pub effect : ℕ → ℕ → ℕ → ℕ → List ℕ
effect step fact at value = u16_bytes step ++ u16_bytes fact ++ u32_bytes at ++ u16_bytes value

unfoldable pub usage : ℕ → ℕ → ℕ → ℕ → List ℕ
usage step level at amount = u16_bytes step ++ u16_bytes level ++ u32_bytes at ++ u32_bytes amount

unfoldable pub goal : ℕ → ℕ → ℕ → List ℕ
goal fact value deadline = u16_bytes fact ++ u16_bytes value ++ u32_bytes deadline

unfoldable pub timed_fact : ℕ → ℕ → ℕ → List ℕ
timed_fact fact tick value = u16_bytes fact ++ u32_bytes tick ++ u16_bytes value

-- the bits of the i32 that is so much below 0
abbrev pub negative : ℕ → ℕ
negative n = 4294967296 - n

-- parts one after the other
unfoldable pub joined : List (List ℕ) → List ℕ
joined = foldr ◌++◌ []

-- the offsets of tables that lie one after the other
unfoldable pub offsets : ℕ → List (List ℕ) → List ℕ
offsets at [] = []
offsets at (t ∷ ts) = u32_bytes at ++ offsets (at + length t) ts

-- the tables' bytes, in the tables' order; a draft without timed facts is of edition 1, which has no table of them
unfoldable pub timed_table : List (List ℕ) → List (List ℕ)
timed_table [] = []
timed_table (t ∷ ts) = joined (t ∷ ts) ∷ []

unfoldable pub tables_of : Draft → List (List ℕ)
tables_of w =
    joined w.facts ∷ joined w.levels ∷ joined w.steps ∷ joined w.conditions ∷ joined w.effects
    ∷ joined w.uses
    ∷ joined w.goals
    ∷ timed_table w.timed

unfoldable pub edition_of : List (List ℕ) → ℕ
edition_of [] = 1
edition_of (t ∷ ts) = 2

-- the bytes of a job file: the header's ten numbers, which name goals before conditions, its offsets, then the tables
unfoldable pub job_bytes : Draft → List ℕ
job_bytes w =
    u16_bytes (edition_of w.timed) ++ u16_bytes w.serial ++ u16_bytes (length w.facts) ++ u16_bytes (length w.levels)
    ++ u16_bytes (length w.steps) ++ u16_bytes (length w.goals) ++ u16_bytes (length w.conditions)
    ++ u16_bytes (length w.effects) ++ u16_bytes (length w.uses) ++ u16_bytes (length w.timed)
    ++ offsets (20 + 4 * length (tables_of w)) (tables_of w) ++ joined (tables_of w)

-- a window
pub record Window : Type 0 where
  pub limit : ℕ
  pub latest : ℕ
  pub earliest : ℕ

abbrev pub window : ℕ → ℕ → ℕ → Window
window limit latest earliest = record { limit = limit; latest = latest; earliest = earliest }

-- an order, with the gap plus `gap_bias`
pub record Order : Type 0 where
  pub first : ℕ
  pub second : ℕ
  pub gap : ℕ

abbrev pub order : ℕ → ℕ → ℕ → Order
order first second gap = record { first = first; second = second; gap = gap }

-- a gap as it is stored, of so much above or below 0
abbrev pub plus : ℕ → ℕ
plus n = gap_bias + n

abbrev pub minus : ℕ → ℕ
minus n = gap_bias - n

-- what a file of these rounds, windows, orders and links says
unfoldable pub contents_with : ℕ → List Window → List Order → List ℕ → Contents
contents_with rounds windows orders links =
    record {
      steps = length windows;
      orders = length orders;
      links = length links;
      rounds = rounds;
      limit = λ k. (get_or windows k (window 0 0 0)).limit;
      latest = λ k. (get_or windows k (window 0 0 0)).latest;
      earliest = λ k. (get_or windows k (window 0 0 0)).earliest;
      first = λ o. (get_or orders o (order 0 0 0)).first;
      second = λ o. (get_or orders o (order 0 0 0)).second;
      gap = λ o. (get_or orders o (order 0 0 0)).gap;
      link = λ k. get_or links k 0;
    }

-- what the paper expects of a job: a refusal; or rounds, windows, orders and links
pub data Expected : Type 0 where
  refused : Refusal → Expected
  accepted : ℕ → List Window → List Order → List ℕ → Expected

-- the job check refuses it so; or it accepts, and what is filed by the planned starts says this
abbrev pub Answers : List ℕ → Expected → Type 0
Answers s (refused r) = job_check s ≡ Err r
Answers s (accepted rounds windows orders links) =
    (job_check s ≡ Accepted) × Agree (file_of (model_of s) (planned (model_of s))) (contents_with rounds windows orders links)

-- a job, and what is expected of it
pub record Case : Type 0 where
  pub job : List ℕ
  pub expected : Expected

-- every case of a table
abbrev pub AllAnswer : List Case → Type 0
AllAnswer [] = Unit
AllAnswer (c ∷ cs) = Answers c.job c.expected × AllAnswer cs

-- the small job: step 0's fixed mark; step 1's start, its length, and from where to its end it wants fact 1; the goals
unfoldable pub small : ℕ → ℕ → ℕ → ℕ → List (List ℕ) → List ℕ
small fixed start long from goals =
    job_bytes
    (record {
      serial = 0;
      facts = fact 1 ∷ fact 0 ∷ [];
      levels = [];
      steps = step 10 5 fixed ∷ step start long 0 ∷ [];
      conditions = condition 1 1 from long 1 ∷ [];
      effects = effect 0 1 5 1 ∷ effect 1 0 3 0 ∷ [];
      uses = [];
      goals = goals;
      timed = [];
    })

unfoldable pub nothing : List ℕ
nothing =
    job_bytes
    (record { serial = 0; facts = []; levels = []; steps = []; conditions = []; effects = []; uses = []; goals = []; timed = [] })

-- level 1 with bounds 0 to most, lowered and raised by 1 at tick 15
unfoldable pub levelled : ℕ → List ℕ
levelled most =
    job_bytes
    (record {
      serial = 0;
      facts = [];
      levels = level 1 0 most ∷ [];
      steps = step 10 5 0 ∷ step 12 3 0 ∷ [];
      conditions = [];
      effects = [];
      uses = usage 0 0 5 (negative 1) ∷ usage 1 0 3 1 ∷ [];
      goals = [];
      timed = [];
    })

-- with the serial mark, lengths 5 and 2, starts 0 and the given one
unfoldable pub marked : ℕ → List ℕ
marked start =
    job_bytes
    (record {
      serial = 1;
      facts = [];
      levels = [];
      steps = step 0 5 0 ∷ step start 2 0 ∷ [];
      conditions = [];
      effects = [];
      uses = [];
      goals = [];
      timed = [];
    })

-- the starred cases
unfoldable pub starred : List Case
starred =
    -- this job
    record {
      job = small 0 20 3 0 [];
      expected = accepted 2 (window 0 no_latest 0 ∷ window 0 no_latest 6 ∷ []) (order 0 1 (plus 6) ∷ []) (0 ∷ []);
    }
    -- no steps and no goals
    ∷ record { job = nothing; expected = accepted 0 [] [] [] }
    -- step 1 at 16
    ∷ record {
      job = small 0 16 3 0 [];
      expected = accepted 2 (window 0 no_latest 0 ∷ window 0 no_latest 6 ∷ []) (order 0 1 (plus 6) ∷ []) (0 ∷ []);
    }
    -- step 1 at 15
    ∷ record { job = small 0 15 3 0 []; expected = refused (ConditionFails 0) }
    -- step 0 fixed
    ∷ record {
      job = small 1 20 3 0 [];
      expected = accepted 2 (window 10 10 10 ∷ window 0 no_latest 16 ∷ []) (order 0 1 (plus 6) ∷ []) (0 ∷ []);
    }
    -- goal fact 1 = 1, deadline 15
    ∷ record {
      job = small 0 20 3 0 (goal 1 1 15 ∷ []);
      expected = accepted 2 (window 0 10 0 ∷ window 0 no_latest 6 ∷ []) (order 0 1 (plus 6) ∷ []) (0 ∷ 0 ∷ []);
    }
    -- deadline 14
    ∷ record { job = small 0 20 3 0 (goal 1 1 14 ∷ []); expected = refused (GoalFails 0) }
    -- condition from 8 after an effect at 5
    ∷ record {
      job = small 0 20 8 8 [];
      expected = accepted 1 (window 0 no_latest 0 ∷ window 0 no_latest 0 ∷ []) (order 0 1 (minus 2) ∷ []) (0 ∷ []);
    }
    -- level 1, bounds 0 to 1, uses −1 and +1 by two steps at one tick
    ∷ record { job = levelled 1; expected = refused (LevelOutOfBounds 0) }
    -- most 2
    ∷ record { job = levelled 2; expected = accepted 1 (window 0 no_latest 0 ∷ window 0 no_latest 0 ∷ []) [] [] }
    -- serial, lengths 5 and 2, starts 0 and 5: "accepted without an order"
    ∷ record { job = marked 5; expected = accepted 1 (window 0 no_latest 0 ∷ window 0 no_latest 0 ∷ []) [] [] }
    -- starts 0 and 4, the same
    ∷ record { job = marked 4; expected = accepted 1 (window 0 no_latest 0 ∷ window 0 no_latest 0 ∷ []) [] [] }
    ∷ []

-- a job of edition 2 on two facts, the first of them 1 at first: step 0 of 5 ticks, what it wants and does, goals, and timed facts
unfoldable pub with_timed : ℕ → List (List ℕ) → List (List ℕ) → List (List ℕ) → List (List ℕ) → List ℕ
with_timed fixed conditions effects goals timed =
    job_bytes
    (record {
      serial = 0;
      facts = fact 1 ∷ fact 0 ∷ [];
      levels = [];
      steps = step 20 5 fixed ∷ [];
      conditions = conditions;
      effects = effects;
      uses = [];
      goals = goals;
      timed = timed;
    })

-- two steps, of which the first gives fact 1 at tick 7, at which the clock gives it as well, and the second wants it
unfoldable pub given_with_clock : List ℕ
given_with_clock =
    job_bytes
    (record {
      serial = 0;
      facts = fact 1 ∷ fact 0 ∷ [];
      levels = [];
      steps = step 2 5 0 ∷ step 20 3 0 ∷ [];
      conditions = condition 1 1 0 3 1 ∷ [];
      effects = effect 0 1 5 1 ∷ [];
      uses = [];
      goals = [];
      timed = timed_fact 1 7 1 ∷ [];
    })

-- what is expected of timed facts: one case a sentence, each of a choice that no theorem pins
unfoldable pub timed_cases : List Case
timed_cases =
    -- "Its link is 512 plus its number", and "a point strictly after tick T gives start ≥ T + 1 − point"
    record {
      job = with_timed 0 (condition 0 1 2 4 1 ∷ []) [] [] (timed_fact 0 3 1 ∷ timed_fact 1 7 1 ∷ []);
      expected = accepted 1 (window 6 no_latest 6 ∷ []) [] (513 ∷ []);
    }
    -- "A tie goes to a step's effect"
    ∷ record {
      job = given_with_clock;
      expected = accepted 2 (window 0 no_latest 0 ∷ window 0 no_latest 6 ∷ []) (order 0 1 (plus 6) ∷ []) (0 ∷ []);
    }
    -- "then to the lower timed fact"
    ∷ record {
      job = with_timed 0 (condition 0 1 2 4 1 ∷ []) [] [] (timed_fact 1 7 1 ∷ timed_fact 1 7 1 ∷ []);
      expected = accepted 1 (window 6 no_latest 6 ∷ []) [] (512 ∷ []);
    }
    -- "one strictly before gives start ≤ T − point − 1": the point is the condition's last tick
    ∷ record {
      job = with_timed 0 (condition 0 0 0 3 1 ∷ []) [] [] (timed_fact 0 30 0 ∷ []);
      expected = accepted 1 (window 0 26 0 ∷ []) [] (initial_state ∷ []);
    }
    -- a fixed step keeps its start
    ∷ record {
      job = with_timed 1 (condition 0 0 0 3 1 ∷ []) [] [] (timed_fact 0 30 0 ∷ []);
      expected = accepted 1 (window 20 20 20 ∷ []) [] (initial_state ∷ []);
    }
    -- an effect between two timed facts that oppose it; "the tightest counts"
    ∷ record {
      job =
          with_timed 0 [] (effect 0 1 3 1 ∷ []) []
          (timed_fact 1 4 0 ∷ timed_fact 1 30 0 ∷ timed_fact 1 2 0 ∷ timed_fact 1 40 0 ∷ []);
      expected = accepted 1 (window 2 26 2 ∷ []) [] [];
    }
    -- a goal that a timed fact supports limits nobody
    ∷ record {
      job = with_timed 0 [] (effect 0 1 3 1 ∷ []) (goal 1 1 10 ∷ []) (timed_fact 1 8 1 ∷ []);
      expected = accepted 1 (window 0 no_latest 0 ∷ []) [] (512 ∷ []);
    }
    -- timed facts count in 10, at the step's effect; in 11, in the value seen and on the way; and in 13
    ∷ record { job = with_timed 0 [] (effect 0 1 4 1 ∷ effect 0 0 3 0 ∷ []) [] (timed_fact 0 23 1 ∷ []); expected = refused (EffectsConflict 1) }
    ∷ record { job = with_timed 0 (condition 0 0 0 3 1 ∷ []) [] [] (timed_fact 0 7 0 ∷ []); expected = refused (ConditionFails 0) }
    ∷ record { job = with_timed 0 (condition 0 0 0 3 1 ∷ []) [] [] (timed_fact 0 23 0 ∷ []); expected = refused (ConditionFails 0) }
    ∷ record { job = with_timed 0 [] [] (goal 0 1 no_latest ∷ []) (timed_fact 0 30 0 ∷ []); expected = refused (GoalFails 0) }
    -- 6 after the goals
    ∷ record { job = with_timed 0 [] [] [] (timed_fact 0 30 0 ∷ timed_fact 2 30 0 ∷ []); expected = refused (RecordOutOfRange 1) }
    -- 17 at the lower one, and after 7
    ∷ record {
      job = with_timed 0 [] [] [] (timed_fact 1 9 0 ∷ timed_fact 0 9 1 ∷ timed_fact 0 8 0 ∷ timed_fact 0 9 0 ∷ []);
      expected = refused (TimedFactsConflict 1);
    }
    ∷ record {
      job = with_timed 0 [] (effect 0 1 3 1 ∷ effect 0 1 3 0 ∷ []) [] (timed_fact 0 9 1 ∷ timed_fact 0 9 0 ∷ []);
      expected = refused (StepAgainstItself 0);
    }
    ∷ []
