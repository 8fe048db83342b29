-- The paper's numbers of what loosening answers: "0 means accepted .. and, from loosening, the file's length; a refusal's length is 0".
use Rattle.std.specs.Prelude.{ℕ, Result, Ok, Err}
use Rattle.verdict.specs.Verdict as verdict
use Rattle.partialize.specs.declared.answer.Unfiled.{Unfiled}
use Rattle.partialize.specs.declared.answer.Unfiled.TheVariants.{Refused, BufferTooShort}

-- the file's length, or why none is written
abbrev pub Answer : Type 0
Answer = Result ℕ Unfiled

-- the number of a refusal
abbrev pub refusal_number : Unfiled → ℕ
refusal_number (Refused r) = verdict.refusal_number r
refusal_number BufferTooShort = 15

-- the place of a refusal
abbrev pub refusal_place : Unfiled → ℕ
refusal_place (Refused r) = verdict.refusal_place r
refusal_place BufferTooShort = verdict.nowhere

-- the number of an answer, 0 for accepted
abbrev pub number : Answer → ℕ
number (Ok n) = 0
number (Err r) = refusal_number r

-- the place of an answer
abbrev pub place : Answer → ℕ
place (Ok n) = verdict.nowhere
place (Err r) = refusal_place r

-- the file's length, 0 for a refusal
abbrev pub length_of : Answer → ℕ
length_of (Ok n) = n
length_of (Err r) = 0
