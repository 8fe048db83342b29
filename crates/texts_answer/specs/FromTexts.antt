-- Two texts as a job: the answer as a function of the texts and the buffer's length, and the buffer afterwards.
use Rattle.std.specs.Prelude.{ℕ, cond, List, [], ◌∷◌, eqb, leb, length, Ok, Err}
use Rattle.std.proofs.lemmas.List.Edits.{sets}
use Rattle.verdict.specs.Verdict.{Verdict}
use Rattle.verdict.specs.declared.Refusal.TheVariants.{CountTooHigh}
use Rattle.grammar.specs.Said.{Item}
use Rattle.grammar.specs.Reader.{Outcome, read, refused}
use Rattle.grammar.specs.Reading.{action_reading, plan_reading}
use Rattle.job.specs.Layout.{count_too_high}
use Rattle.job.specs.Model.{Model}
use Rattle.job_encoding.specs.Encode.{counts_in, encode}
use Rattle.validity.specs.Checks.{job_check}
use Rattle.supplied.specs.Names.{with_names}
use Rattle.supplied.specs.Plan.{Line, lines_of, differs}
use Rattle.supplied.specs.Job.{supplied_job}
use Rattle.texts_answer.specs.declared.TextsRefusal.TheVariants.{ActionsOutside, ActionsTooDeep, PlanOutside, PlanDiffers, Refused, BufferTooShort}
use Rattle.texts_answer.specs.Answer.{TextsAnswer}

-- the action text with its names, 18 and 19
unfoldable pub actions_read : List ℕ → Outcome
actions_read actions = with_names (action_reading actions)

-- the bytes of the job, "of edition 1"
unfoldable pub job_bytes : List Item → List Item → List ℕ
job_bytes is plan = encode 1 (supplied_job is plan)

-- an answer, unless a check refuses
abbrev pub unless_refused : Verdict → TextsAnswer → TextsAnswer
unless_refused (Ok _) a = a
unless_refused (Err refusal) a = Err (Refused refusal)

-- the job check of these bytes, then 15, else their length
unfoldable pub checked : List ℕ → ℕ → TextsAnswer
checked job room = unless_refused (job_check job) (cond (leb (length job) room) (Ok (length job)) (Err BufferTooShort))

-- 4, before a count is written
unfoldable pub counted : Model → ℕ → TextsAnswer
counted m room = cond (count_too_high (counts_in m)) (Err (Refused CountTooHigh)) (checked (encode 1 m) room)

-- 20, at the first line that differs
unfoldable pub lined : List Item → List Line → TextsAnswer → TextsAnswer
lined is [] a = a
lined is (l ∷ ls) a = cond (differs is l) (Err (PlanDiffers l.line)) (lined is ls a)

-- "The action text's first fault comes before the plan's."
unfoldable pub plan_answer : List Item → Outcome → ℕ → TextsAnswer
plan_answer is (refused n line said) room = Err (PlanOutside line)
plan_answer is (read plan) room = lined is (lines_of plan) (counted (supplied_job is plan) room)

unfoldable pub texts_answer : Outcome → Outcome → ℕ → TextsAnswer
texts_answer (refused n line said) plan room = cond (eqb n 19) (Err (ActionsTooDeep line)) (Err (ActionsOutside line))
texts_answer (read is) plan room = plan_answer is plan room

unfoldable pub answer_to : List ℕ → List ℕ → ℕ → TextsAnswer
answer_to actions plan room = texts_answer (actions_read actions) (plan_reading plan) room

-- the job that two readings give; none where one is refused
unfoldable pub bytes_of : Outcome → Outcome → List ℕ
bytes_of (read is) (read plan) = job_bytes is plan
bytes_of (read is) (refused n line said) = []
bytes_of (refused n line said) plan = []

-- "bytes past it stay", and a refusal changes no byte
unfoldable pub written : TextsAnswer → List ℕ → List ℕ → List ℕ
written (Ok n) job out = sets out 0 job
written (Err r) job out = out

unfoldable pub buffer_after : List ℕ → List ℕ → List ℕ → List ℕ
buffer_after actions plan out =
    written (answer_to actions plan (length out)) (bytes_of (actions_read actions) (plan_reading plan)) out
