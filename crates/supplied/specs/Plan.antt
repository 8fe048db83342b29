-- The plan's lines and the actions that they name: "20, once both texts are read, a plan line that names no action or has another
-- duration".
use Rattle.std.specs.Prelude.{ℕ, Bool, false, cond, not, ◌||◌, List, [], ◌∷◌, eqb}
use Rattle.spelling.specs.Keywords.{same}
use Rattle.grammar.specs.Said.{action, fact, rise, fall, stock, planned, Said, name, number, Item}
use Rattle.grammar.specs.Tree.{Word}

-- the number that is said, and the name
unfoldable pub number_in : Said → ℕ
number_in (number n) = n
number_in (name r w) = 0

unfoldable pub word_in : Said → Word
word_in (name r w) = w
word_in (number n) = []

-- a line: its start, the name of an action, its duration, and where it stands
pub record Line : Type 0 where
  pub start : ℕ
  pub action : Word
  pub duration : ℕ
  pub line : ℕ

-- "T: (N) [T]"
unfoldable pub lines_of : List Item → List Line
lines_of [] = []
lines_of (a ∷ []) = []
lines_of (a ∷ b ∷ []) = []
lines_of (a ∷ b ∷ c ∷ is) =
    record { start = number_in a.said; action = word_in b.said; duration = number_in c.said; line = b.line } ∷ lines_of is

-- whether an action of that name is said here
unfoldable pub is_action : Word → Said → Bool
is_action v (name action w) = same w v
is_action v (name (fact p x) w) = false
is_action v (name (rise q) w) = false
is_action v (name (fall q) w) = false
is_action v (name stock w) = false
is_action v (name planned w) = false
is_action v (number n) = false

unfoldable pub has_action : Word → List Item → Bool
has_action v [] = false
has_action v (i ∷ is) = is_action v i.said || has_action v is

-- what stands behind the name of an action: its duration, then what it wants and does
unfoldable pub behind : Word → List Item → List Item
behind v [] = []
behind v (i ∷ is) = cond (is_action v i.said) is (behind v is)

-- the number that comes first
unfoldable pub leading : List Item → ℕ
leading [] = 0
leading (i ∷ is) = number_in i.said

-- a line that names no action, or has another duration
unfoldable pub differs : List Item → Line → Bool
differs is l = not (has_action l.action is) || not (eqb (leading (behind l.action is)) l.duration)
