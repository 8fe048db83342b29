-- Between crates: cases of needs, one a sentence, each a job with the verdict on its written starts. `Valid` and the check speak of what
-- counts against a need by the same definitions, so only these pin what that is.
use Rattle.std.specs.Prelude.{ℕ, ◌+◌, ◌-◌, ◌≡◌, cond, List, [], ◌∷◌, length, get_or, eqb, Err}
use Rattle.little_endian.specs.Bytes.{sign_bias}
use Rattle.verdict.specs.Verdict.{Verdict, Accepted}
use Rattle.verdict.specs.declared.Refusal.TheVariants.{LevelOutOfBounds, GoalFails, NeedUnmet}
use Rattle.job.specs.declared.records.Use.{Use}
use Rattle.job.specs.declared.records.Need.{Need}
use Rattle.job.specs.Model.{Model, no_deadline}
use Rattle.validity.specs.Ticks.{planned}
use Rattle.validity.specs.Checks.{timing_check}

-- a number of a level as it is stored, of so much above or below 0
abbrev pub above : ℕ → ℕ
above n = sign_bias + n

abbrev pub below : ℕ → ℕ
below n = sign_bias - n

abbrev pub usage : ℕ → ℕ → ℕ → ℕ → Use
usage step level at amount = record { step = step; level = level; at = at; amount = amount }

abbrev pub need : ℕ → ℕ → ℕ → ℕ → Need
need step level at least = record { step = step; level = level; at = at; least = least }

-- two shelves with 2 on each at first, and room for 9; two steps, at 10 for 5 ticks and at 12 for 3, so that tick 14 is point 4 of step 0
-- and point 2 of step 1; what they use and need; and so many goals, none of them reached
unfoldable pub shelves : List Use → List Need → ℕ → Model
shelves uses wanted goals =
    let used : ℕ → Use = λ k. get_or uses k (usage 0 0 0 0) in
    let needed : ℕ → Need = λ k. get_or wanted k (need 0 0 0 0) in
    record {
      facts = 1;
      levels = 2;
      steps = 2;
      conditions = 0;
      effects = 0;
      uses = length uses;
      goals = goals;
      timed = 0;
      needs = length wanted;
      initial = λ k. 0;
      level_initial = λ k. above 2;
      level_least = λ k. above 0;
      level_most = λ k. above 9;
      start = λ k. cond (eqb k 0) 10 12;
      step_length = λ k. cond (eqb k 0) 5 3;
      fixed = λ k. 0;
      condition_step = λ k. 0;
      condition_fact = λ k. 0;
      condition_from = λ k. 0;
      condition_to = λ k. 0;
      condition_value = λ k. 0;
      effect_step = λ k. 0;
      effect_fact = λ k. 0;
      effect_at = λ k. 0;
      effect_value = λ k. 0;
      use_step = λ k. (used k).step;
      use_level = λ k. (used k).level;
      use_at = λ k. (used k).at;
      use_amount = λ k. (used k).amount;
      goal_fact = λ k. 0;
      goal_value = λ k. 1;
      goal_deadline = λ k. no_deadline;
      timed_fact = λ k. 0;
      timed_tick = λ k. 0;
      timed_value = λ k. 0;
      need_step = λ k. (needed k).step;
      need_level = λ k. (needed k).level;
      need_at = λ k. (needed k).at;
      need_least = λ k. (needed k).least;
    }

-- a job, and the verdict on its written starts
pub record NeedCase : Type 0 where
  pub job : Model
  pub verdict : Verdict

abbrev pub need_case : Model → Verdict → NeedCase
need_case job verdict = record { job = job; verdict = verdict }

abbrev pub AllJudged : List NeedCase → Type 0
AllJudged [] = Unit
AllJudged (c ∷ cs) = (timing_check c.job (planned c.job) ≡ c.verdict) × AllJudged cs

-- step 0 needs so many on shelf 0 at tick 14
unfoldable pub calibration : ℕ → Need
calibration n = need 0 0 4 (above n)

-- that need alone, with these uses
unfoldable pub calibrated : List Use → ℕ → Model
calibrated uses n = shelves uses (calibration n ∷ []) 0

unfoldable pub need_cases : List NeedCase
need_cases =
    -- "reaches its least": it is as much, and not one less
    need_case (calibrated [] 2) Accepted
    ∷ need_case (calibrated [] 3) (Err (NeedUnmet 0))
    -- "the level from earlier ticks": what any step put there or took before counts, the own one too
    ∷ need_case (calibrated (usage 1 0 1 (above 1) ∷ []) 3) Accepted
    ∷ need_case (calibrated (usage 0 0 3 (above 1) ∷ []) 3) Accepted
    ∷ need_case (calibrated (usage 1 0 1 (below 1) ∷ []) 2) (Err (NeedUnmet 0))
    ∷ need_case (calibrated (usage 0 0 3 (below 1) ∷ []) 2) (Err (NeedUnmet 0))
    -- "plus all other steps' falls at its tick": another step's, and not the own
    ∷ need_case (calibrated (usage 1 0 2 (below 1) ∷ []) 2) (Err (NeedUnmet 0))
    ∷ need_case (calibrated (usage 0 0 4 (below 1) ∷ []) 2) Accepted
    -- rises at its tick come too late, another step's and the own
    ∷ need_case (calibrated (usage 1 0 2 (above 1) ∷ []) 3) (Err (NeedUnmet 0))
    ∷ need_case (calibrated (usage 0 0 4 (above 1) ∷ []) 3) (Err (NeedUnmet 0))
    -- and so do falls after it
    ∷ need_case (calibrated (usage 1 0 3 (below 1) ∷ []) 2) Accepted
    -- what is taken from the other shelf, or put there, does not count
    ∷ need_case (calibrated (usage 1 1 1 (below 1) ∷ []) 2) Accepted
    ∷ need_case (calibrated (usage 1 1 1 (above 1) ∷ []) 3) (Err (NeedUnmet 0))
    -- "place: need", the lowest unmet one
    ∷ need_case (shelves [] (calibration 2 ∷ calibration 3 ∷ calibration 3 ∷ []) 0) (Err (NeedUnmet 1))
    -- "after 12": a level out of its bounds is named first, and a goal that fails later
    ∷ need_case (calibrated (usage 1 0 1 (below 3) ∷ []) 2) (Err (LevelOutOfBounds 0))
    ∷ need_case (shelves [] (calibration 3 ∷ []) 1) (Err (NeedUnmet 0))
    ∷ need_case (shelves [] (calibration 2 ∷ []) 1) (Err (GoalFails 0))
    ∷ []
