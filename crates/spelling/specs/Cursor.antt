-- What a cursor says, the token that stands at it and those behind it, and the tests of that token.
use Rattle.std.specs.Prelude.{ℕ, ◌≤◌, ◌<◌, ◌≡◌, Bool, true, false, cond, List, [], ◌∷◌, Option, None, eqb, ltb, length, get_or, drop}
use Rattle.std.proofs.Math.Seq.{slice}
use Rattle.spelling.specs.Tokens.{Token, mark, word, stop, Placed, placed, is_mark, line_after, tokens}
use Rattle.spelling.specs.Keywords.{same}
use Rattle.spelling.specs.Numbers.{whole_of, time_of}
use Rattle.spelling.specs.declared.Cursor.{Cursor}

-- the tokens from a cursor on
abbrev pub rest : Bool → List ℕ → Cursor → List Placed
rest plan text c = tokens plan c.line (drop c.at text)

-- the token at a cursor
unfoldable pub here : Bool → List ℕ → Cursor → Token
here plan text c =
    let b = get_or text c.at 0 in
    cond (ltb c.at (length text)) (cond (is_mark plan b) (mark b) (word (slice c.at c.end text))) stop

-- the tokens behind it
unfoldable pub behind : Bool → List ℕ → Cursor → List Placed
behind plan text c =
    cond (ltb c.at (length text)) (tokens plan (line_after (get_or text c.at 0) c.line) (drop c.end text)) []

-- a cursor stands at a token
pub record Standing (plan : Bool) (text : List ℕ) (c : Cursor) : Type 0 where
  pub within : c.end ≤ length text
  pub onward : c.at ≤ c.end
  pub grows : c.at < length text → c.at < c.end
  pub lines : c.line ≤ c.at
  pub stands : rest plan text c ≡ placed (here plan text c) c.line ∷ behind plan text c

-- the first token of a text
pub record First (plan : Bool) (text : List ℕ) (c : Cursor) : Type 0 where
  pub standing : Standing plan text c
  pub same : tokens plan 0 text ≡ rest plan text c

-- the token behind another
pub record Next (plan : Bool) (text : List ℕ) (c next : Cursor) : Type 0 where
  pub standing : Standing plan text next
  pub further : c.at < next.at
  pub same : behind plan text c ≡ rest plan text next

-- what a token is
unfoldable pub is_bracket : ℕ → Token → Bool
is_bracket b (mark m) = eqb m b
is_bracket b (word w) = false
is_bracket b stop = false

-- a word that passes a test
unfoldable pub is_such : (List ℕ → Bool) → Token → Bool
is_such p (word w) = p w
is_such p (mark m) = false
is_such p stop = false

abbrev pub is_word : List ℕ → Token → Bool
is_word v t = is_such (λ w. same w v) t

unfoldable pub is_stop : Token → Bool
is_stop stop = true
is_stop (word w) = false
is_stop (mark m) = false

-- what a token spells
unfoldable pub whole_at : Token → Option ℕ
whole_at (word w) = whole_of w
whole_at (mark m) = None
whole_at stop = None

unfoldable pub time_at : Token → Option ℕ
time_at (word w) = time_of w
time_at (mark m) = None
time_at stop = None
