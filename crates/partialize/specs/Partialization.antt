-- Loosening as a function of the job's bytes and the buffer: its answer, and the buffer afterwards.
use Rattle.std.specs.Prelude.{ℕ, Bool, ◌&&◌, cond, List, length, leb, eqb, Ok, Err}
use Rattle.verdict.specs.Verdict.{Verdict, number}
use Rattle.job.specs.Model.{model_of}
use Rattle.validity.specs.Ticks.{planned}
use Rattle.validity.specs.Checks.{job_check}
use Rattle.order_file.specs.Contents.{Contents}
use Rattle.order_file.specs.Encode.{encode}
use Rattle.partialize.specs.declared.answer.Unfiled.TheVariants.{Refused, BufferTooShort}
use Rattle.partialize.specs.Answer.{Answer}
use Rattle.orders.specs.File.{file_of}
use Rattle.order_file.specs.Held.{over}

-- the contents of a job's order file
unfoldable pub loose_of : List ℕ → Contents
loose_of s = file_of (model_of s) (planned (model_of s))

-- its bytes
unfoldable pub file_bytes : List ℕ → List ℕ
file_bytes s = encode (loose_of s)

-- whether the job check accepts, and whether a buffer of n bytes holds the file
unfoldable pub accepts : List ℕ → Bool
accepts s = eqb (number (job_check s)) 0

unfoldable pub fits : List ℕ → ℕ → Bool
fits s n = leb (length (file_bytes s)) n

-- an answer, unless a check refuses
abbrev pub unless_refused : Verdict → Answer → Answer
unless_refused (Ok _) a = a
unless_refused (Err refusal) a = Err (Refused refusal)

-- refusals 1 to 7, 17, 10 to 13 and 21, then 15, else the file's length
unfoldable pub answer_to : List ℕ → ℕ → Answer
answer_to s n = unless_refused (job_check s) (cond (fits s n) (Ok (length (file_bytes s))) (Err BufferTooShort))

-- the file at the front of the buffer, and the bytes past its end as they were; a refusal changes no byte
unfoldable pub buffer_after : List ℕ → List ℕ → List ℕ
buffer_after s out = cond (accepts s && fits s (length out)) (over (file_bytes s) out) out
