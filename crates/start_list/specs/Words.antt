-- Inner: where a word of a text ends, and the words behind it.
use Rattle.std.specs.Prelude.{ℕ, ◌+◌, ◌≤◌, ◌<◌, ◌≡◌, List, [], ◌∷◌, length, drop}
use Rattle.std.proofs.Math.Seq.{slice}
use Rattle.start_list.specs.Starts.{words}

-- the word from a place on ends there, with the text or at a comma that more words follow
pub record WordTo (text : List ℕ) (at end : ℕ) : Type 0 where
  pub onward : at ≤ end
  pub within : end ≤ length text
  pub last : end ≡ length text → words (drop at text) ≡ slice at end text ∷ []
  pub more : end < length text → words (drop at text) ≡ slice at end text ∷ words (drop (end + 1) text)
