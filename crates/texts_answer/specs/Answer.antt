-- The paper's numbers of what two texts are answered: "Accepted, this and m) return the job's length".
use Rattle.std.specs.Prelude.{ℕ, Result, Ok, Err}
use Rattle.verdict.specs.Verdict as verdict
use Rattle.texts_answer.specs.declared.TextsRefusal.{TextsRefusal}
use Rattle.texts_answer.specs.declared.TextsRefusal.TheVariants.{ActionsOutside, ActionsTooDeep, PlanOutside, PlanDiffers, Refused, BufferTooShort}

-- the job's length, or why none is made
abbrev pub TextsAnswer : Type 0
TextsAnswer = Result ℕ TextsRefusal

-- the number of a refusal
abbrev pub refusal_number : TextsRefusal → ℕ
refusal_number (ActionsOutside l) = 18
refusal_number (ActionsTooDeep l) = 19
refusal_number (PlanOutside l) = 18
refusal_number (PlanDiffers l) = 20
refusal_number (Refused r) = verdict.refusal_number r
refusal_number BufferTooShort = 15

-- the place of a refusal: a line of its text, from 0, or the record that the job check names
abbrev pub refusal_place : TextsRefusal → ℕ
refusal_place (ActionsOutside l) = l
refusal_place (ActionsTooDeep l) = l
refusal_place (PlanOutside l) = l
refusal_place (PlanDiffers l) = l
refusal_place (Refused r) = verdict.refusal_place r
refusal_place BufferTooShort = verdict.nowhere

-- the number of an answer, 0 for accepted
abbrev pub number : TextsAnswer → ℕ
number (Ok n) = 0
number (Err r) = refusal_number r

-- the place of an answer
abbrev pub place : TextsAnswer → ℕ
place (Ok n) = verdict.nowhere
place (Err r) = refusal_place r

-- the job's length, 0 for a refusal
abbrev pub length_of : TextsAnswer → ℕ
length_of (Ok n) = n
length_of (Err r) = 0
