-- What a text is made of, words, brackets and the text's end, each on its line. In a plan a colon is like a bracket and a
-- line end stands for itself.
use Rattle.std.specs.Prelude.{ℕ, suc, Bool, false, cond, not, ◌||◌, ◌&&◌, List, [], ◌∷◌, eqb}

-- the longest text
abbrev pub text_most : ℕ
text_most = 65535

-- a space, a tab and, outside a plan, a line end
unfoldable pub is_blank : Bool → ℕ → Bool
is_blank plan b = (eqb b 32 || eqb b 9) || (not plan && eqb b 10)

-- ( ) [ ] and, in a plan, a colon or a line end
unfoldable pub is_mark : Bool → ℕ → Bool
is_mark plan b = (((eqb b 40 || eqb b 41) || eqb b 91) || eqb b 93) || (plan && (eqb b 58 || eqb b 10))

-- a byte of a word
unfoldable pub in_word : Bool → ℕ → Bool
in_word plan b = not (is_blank plan b || is_mark plan b)

pub data Token : Type 0 where
  mark : ℕ → Token
  word : List ℕ → Token
  stop : Token

-- a token and the line on which it stands, counted from 0
pub record Placed : Type 0 where
  pub token : Token
  pub line : ℕ

abbrev pub placed : Token → ℕ → Placed
placed t l = record { token = t; line = l }

-- tokens without their lines
unfoldable pub bare : List Placed → List Token
bare [] = []
bare (p ∷ ps) = p.token ∷ bare ps

-- the line after a byte: byte 10 ends one
unfoldable pub line_after : ℕ → ℕ → ℕ
line_after b line = cond (eqb b 10) (suc line) line

-- whether a text goes on with a byte of a word
unfoldable pub joins : Bool → List ℕ → Bool
joins plan [] = false
joins plan (b ∷ bs) = in_word plan b

-- a byte before a word that it touches
unfoldable pub grown : ℕ → List Placed → List Placed
grown b [] = []
grown b (p ∷ ps) = grown_token b p.token p.line ps
  where
    grown_token : ℕ → Token → ℕ → List Placed → List Placed
    grown_token b (word w) l ps = placed (word (b ∷ w)) l ∷ ps
    grown_token b (mark m) l ps = placed (mark m) l ∷ ps
    grown_token b stop l ps = placed stop l ∷ ps

-- a byte before the tokens of the rest, which it touches or not
unfoldable pub with_byte : Bool → ℕ → ℕ → Bool → List Placed → List Placed
with_byte plan b line touches ps =
    cond (is_blank plan b) ps
    (cond (is_mark plan b) (placed (mark b) line ∷ ps)
    (cond touches (grown b ps) (placed (word (b ∷ [])) line ∷ ps)))

-- the tokens of a text that begins on a line, the text's end last
unfoldable pub tokens : Bool → ℕ → List ℕ → List Placed
tokens plan line [] = placed stop line ∷ []
tokens plan line (b ∷ bs) = with_byte plan b line (joins plan bs) (tokens plan (line_after b line) bs)
