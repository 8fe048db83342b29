-- Inner: the answer and the buffer, from the plan on.
use Rattle.std.specs.Prelude.{◌≡◌, List, ℕ, length}
use Rattle.grammar.specs.Said.{Item}
use Rattle.grammar.specs.Reader.{read}
use Rattle.grammar.specs.Reading.{plan_reading}
use Rattle.texts_answer.specs.Answer.{TextsAnswer}
use Rattle.texts_answer.specs.FromTexts.{plan_answer, bytes_of, written}

-- of actions that say these items
pub record Answered (is : List Item) (plan out : List ℕ) (a : TextsAnswer) (after : List ℕ) : Type 0 where
  pub answer : a ≡ plan_answer is (plan_reading plan) (length out)
  pub buffer : after ≡ written a (bytes_of (read is) (plan_reading plan)) out
