-- What the search by pairs answers of a file, and what is promised of it.
use Rattle.std.specs.Prelude.{ℕ, ◌<◌, ◌≡◌, cond, List, ltb, Ok, Err}
use Rattle.verdict.specs.declared.Refusal.{Refusal}
use Rattle.verdict.specs.Verdict as verdict
use Rattle.verdict.specs.Verdict.{Verdict, nowhere, ◌then◌}
use Rattle.job.specs.Model.{Model, model_of}
use Rattle.header_check.specs.Header.{header_check}
use Rattle.record_check.specs.Records.{record_check}
use Rattle.against.specs.declared.StepSearch.{StepSearch}
use Rattle.against.specs.BothWays.{SetsBothWays, FirstBothWays}
use Rattle.against.specs.Pairs.{pair_search}
use Rattle.pair_search.specs.declared.answer.PairsAnswer.{PairsAnswer}
use Rattle.pair_search.specs.declared.answer.PairsAnswer.TheVariants.{NoneFound, Found, Refused}

-- what is found in a job
unfoldable pub found_in : Model → StepSearch → PairsAnswer
found_in m r = cond (ltb r.step m.steps) (Found r.compared r.step) (NoneFound r.compared)

-- an answer, unless a check refuses
abbrev pub refused_or : PairsAnswer → Verdict → PairsAnswer
refused_or a (Ok _) = a
refused_or a (Err refusal) = Refused refusal

-- refusals 1 to 6, then the search
unfoldable pub pairs_answer : List ℕ → PairsAnswer
pairs_answer s =
    refused_or (found_in (model_of s) (pair_search (model_of s))) (header_check s then record_check (model_of s))

-- the number of a refusal, 0 for a search
abbrev pub number : PairsAnswer → ℕ
number (NoneFound n) = 0
number (Found n step) = 0
number (Refused r) = verdict.refusal_number r

-- the step of the pair found, or the place of a refusal
abbrev pub place : PairsAnswer → ℕ
place (NoneFound n) = nowhere
place (Found n step) = step
place (Refused r) = verdict.refusal_place r

-- how many pairs were compared, 0 for a refusal
abbrev pub compared : PairsAnswer → ℕ
compared (NoneFound n) = n
compared (Found n step) = n
compared (Refused v) = 0

-- the answer is the definition's; in plain words, the step named has a pair and no lower one has, or no step has, or 1 to 6 refuse the file
pub record PairsPromise (s : List ℕ) (r : PairsAnswer) : Type 0 where
  pub answer : r ≡ pairs_answer s
  pub found : (n step : ℕ) → r ≡ Found n step → FirstBothWays (model_of s) step
  pub none : (n : ℕ) → r ≡ NoneFound n → (step e f : ℕ) → step < (model_of s).steps → SetsBothWays (model_of s) step e f → ⊥
  pub refused : (v : Refusal) → r ≡ Refused v → Err v ≡ (header_check s then record_check (model_of s))
