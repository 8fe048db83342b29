-- Between crates: the answer and the buffer, from the job's records on.
use Rattle.std.specs.Prelude.{◌≡◌, List, ℕ, length}
use Rattle.job.specs.Model.{Model}
use Rattle.job_encoding.specs.Encode.{encode}
use Rattle.texts_answer.specs.Answer.{TextsAnswer}
use Rattle.texts_answer.specs.FromTexts.{counted, written}

-- of a job
pub record Filed (m : Model) (out : List ℕ) (a : TextsAnswer) (after : List ℕ) : Type 0 where
  pub answer : a ≡ counted m (length out)
  pub buffer : after ≡ written a (encode 1 m) out
