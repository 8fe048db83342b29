-- The line that `pddl` prints of what two texts are answered. Bytes are ASCII codes, and the line ends with a newline.
use Rattle.std.specs.Prelude.{ℕ, ◌+◌, List, ◌++◌, Ok, Err}
use Rattle.spelling.specs.Keywords.{codes}
use Rattle.verdict.specs.declared.Refusal.{Refusal}
use Rattle.verdict.specs.declared.Refusal.TheVariants.{FileTooShort, UnknownEdition, MarkOutOfRange, CountTooHigh, LayoutDisagrees}
use Rattle.verdict.specs.declared.Refusal.TheVariants.{RecordOutOfRange, StepAgainstItself, StartsMiscounted, FixedStepMoved, EffectsConflict}
use Rattle.verdict.specs.declared.Refusal.TheVariants.{ConditionFails, LevelOutOfBounds, GoalFails, TimedFactsConflict, NeedUnmet}
use Rattle.texts_answer.specs.declared.TextsRefusal.{TextsRefusal}
use Rattle.texts_answer.specs.declared.TextsRefusal.TheVariants.{ActionsOutside, ActionsTooDeep, PlanOutside, PlanDiffers}
use Rattle.texts_answer.specs.declared.TextsRefusal.TheVariants.{Refused, BufferTooShort}
use Rattle.texts_answer.specs.Answer.{TextsAnswer, refusal_number, refusal_place}
use Rattle.text.specs.Decimal.{field}

-- words and a line of a text, which is counted from 1 as editors do
unfoldable pub at_line : List ℕ → ℕ → List ℕ
at_line words line = words ++ field (codes ", line ") (line + 1)

-- words and a record of the job, by its number
unfoldable pub of_record : List ℕ → ℕ → List ℕ
of_record words k = words ++ field (codes " ") k

-- what the job check found in the job that the texts describe, and its record; the last words are for refusals that such a job, which is of
-- edition 1 with no mark and no fixed step, has no cause for
unfoldable pub unsound : Refusal → List ℕ
unsound CountTooHigh = codes "more records than a job can have"
unsound (RecordOutOfRange k) = of_record (codes "a start, duration or amount out of its range, record") k
unsound (StepAgainstItself k) = of_record (codes "a step against itself, step") k
unsound (EffectsConflict k) = of_record (codes "two steps set a fact both ways at one tick, effect") k
unsound (ConditionFails k) = of_record (codes "a condition fails, condition") k
unsound (LevelOutOfBounds k) = of_record (codes "a level passes a bound, level") k
unsound (GoalFails k) = of_record (codes "a goal fails, goal") k
unsound FileTooShort = codes "the job is refused"
unsound UnknownEdition = codes "the job is refused"
unsound MarkOutOfRange = codes "the job is refused"
unsound LayoutDisagrees = codes "the job is refused"
unsound StartsMiscounted = codes "the job is refused"
unsound (FixedStepMoved k) = codes "the job is refused"
unsound (TimedFactsConflict k) = codes "the job is refused"
unsound (NeedUnmet k) = codes "the job is refused"

-- what is wrong, and where
unfoldable pub fault : TextsRefusal → List ℕ
fault (ActionsOutside l) = at_line (codes "the actions are too long or cannot go on so") l
fault (ActionsTooDeep l) = at_line (codes "an (and ..) of the actions is deeper than 16") l
fault (PlanOutside l) = at_line (codes "the plan is too long or cannot go on so") l
fault (PlanDiffers l) = at_line (codes "no action of this name and duration, plan") l
fault (Refused v) = unsound v
fault BufferTooShort = codes "the job is too long"

-- `a job of N bytes`
unfoldable pub made_line : ℕ → List ℕ
made_line n = field (codes "a job of ") n ++ codes " bytes\n"

-- `refused N place P: ` and what is wrong
unfoldable pub refused_line : TextsRefusal → List ℕ
refused_line r = field (codes "refused ") (refusal_number r) ++ field (codes " place ") (refusal_place r) ++ codes ": " ++ fault r ++ codes "\n"

-- the job's length where one is made, else the refusal
unfoldable pub told : TextsAnswer → List ℕ
told (Ok n) = made_line n
told (Err r) = refused_line r

-- the most bytes of what is wrong, and of a line
abbrev pub fault_most : ℕ
fault_most = 63

abbrev pub told_most : ℕ
told_most = 101
