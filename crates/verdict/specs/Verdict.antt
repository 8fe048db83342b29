-- The numbers and places of "Refusals", and a chain of checks in checking order.
use Rattle.std.specs.Prelude.{ℕ, Bool, cond, ltb, Result, Ok, Err}
use Rattle.laws.specs.Search.{lowest}
use Rattle.verdict.specs.declared.Refusal.{Refusal}
use Rattle.verdict.specs.declared.Refusal.TheVariants.{FileTooShort, UnknownEdition, MarkOutOfRange, CountTooHigh, LayoutDisagrees}
use Rattle.verdict.specs.declared.Refusal.TheVariants.{RecordOutOfRange, StepAgainstItself, StartsMiscounted, FixedStepMoved, EffectsConflict}
use Rattle.verdict.specs.declared.Refusal.TheVariants.{ConditionFails, LevelOutOfBounds, GoalFails, TimedFactsConflict, NeedUnmet}

-- the place where none is named
abbrev pub nowhere : ℕ
nowhere = 65535

-- accepted, or the first refusal
abbrev pub Verdict : Type 0
Verdict = Result Unit Refusal

abbrev pub Accepted : Verdict
Accepted = Ok tt

-- the number of a refusal
abbrev pub refusal_number : Refusal → ℕ
refusal_number FileTooShort = 1
refusal_number UnknownEdition = 2
refusal_number MarkOutOfRange = 3
refusal_number CountTooHigh = 4
refusal_number LayoutDisagrees = 5
refusal_number (RecordOutOfRange k) = 6
refusal_number (StepAgainstItself k) = 7
refusal_number StartsMiscounted = 8
refusal_number (FixedStepMoved k) = 9
refusal_number (EffectsConflict k) = 10
refusal_number (ConditionFails k) = 11
refusal_number (LevelOutOfBounds k) = 12
refusal_number (GoalFails k) = 13
refusal_number (TimedFactsConflict k) = 17
refusal_number (NeedUnmet k) = 21

-- the place of a refusal
abbrev pub refusal_place : Refusal → ℕ
refusal_place FileTooShort = nowhere
refusal_place UnknownEdition = nowhere
refusal_place MarkOutOfRange = nowhere
refusal_place CountTooHigh = nowhere
refusal_place LayoutDisagrees = nowhere
refusal_place (RecordOutOfRange k) = k
refusal_place (StepAgainstItself k) = k
refusal_place StartsMiscounted = nowhere
refusal_place (FixedStepMoved k) = k
refusal_place (EffectsConflict k) = k
refusal_place (ConditionFails k) = k
refusal_place (LevelOutOfBounds k) = k
refusal_place (GoalFails k) = k
refusal_place (TimedFactsConflict k) = k
refusal_place (NeedUnmet k) = k

-- the number of a verdict, 0 for accepted
abbrev pub number : Verdict → ℕ
number (Ok _) = 0
number (Err refusal) = refusal_number refusal

-- the place of a verdict
abbrev pub place : Verdict → ℕ
place (Ok _) = nowhere
place (Err refusal) = refusal_place refusal

infixl 20 ◌then◌
-- a check, and where it accepts the next one
unfoldable pub ◌then◌ : Verdict → Verdict → Verdict
(Ok _) then w = w
(Err refusal) then w = Err refusal

-- a refusal where a test says so
unfoldable pub refuse_if : Bool → Refusal → Verdict
refuse_if broken refusal = cond broken (Err refusal) Accepted

-- a refusal at the lowest of n records that a test names
unfoldable pub refuse_lowest : ℕ → (ℕ → Bool) → (ℕ → Refusal) → Verdict
refuse_lowest n broken refusal = refuse_if (ltb (lowest n broken) n) (refusal (lowest n broken))
