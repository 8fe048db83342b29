-- The spelling of words and brackets as a text. "Spaces, tabs and line ends must part two words, never stand inside one
-- and are otherwise free, except that each plan line has a line to itself."
use Rattle.std.specs.Prelude.{ℕ, ◌<◌, ◌≡◌, Bool, true, false, List, [], ◌∷◌, ◌++◌, length, get_or}
use Rattle.spelling.specs.Tokens.{Token, mark, word, stop, is_blank, is_mark, in_word, joins}

pub data Spells (plan : Bool) : List ℕ → List Token → Type 0 where
  ends : Spells plan [] (stop ∷ [])
  blank : {b : ℕ} {text : List ℕ} {ts : List Token} → is_blank plan b ≡ true → Spells plan text ts → Spells plan (b ∷ text) ts
  bracket : {b : ℕ} {text : List ℕ} {ts : List Token} → is_mark plan b ≡ true → Spells plan text ts → Spells plan (b ∷ text) (mark b ∷ ts)
  -- a word, and nothing of a word behind it
  run :
      {text : List ℕ} {ts : List Token} (b : ℕ) (w rest : List ℕ) → text ≡ b ∷ w ++ rest →
      in_word plan b ≡ true → ((k : ℕ) → k < length w → in_word plan (get_or w k 0) ≡ true) → joins plan rest ≡ false →
      Spells plan rest ts → Spells plan text (word (b ∷ w) ∷ ts)
