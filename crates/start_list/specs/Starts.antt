-- What a person's list of starts is and says: whole numbers of one to nine digits with commas between them, or no text at all.
use Rattle.std.specs.Prelude.{ℕ, Bool, true, cond, ◌&&◌, List, [], ◌∷◌, ◌++◌, Option, Some, None, map, eqb, length}
use Rattle.spelling.specs.Numbers.{is_whole, spelled}

abbrev pub comma : ℕ
comma = 44

-- bytes put before the first word
unfoldable pub joined : List ℕ → List (List ℕ) → List (List ℕ)
joined v [] = []
joined v (w ∷ ws) = (v ++ w) ∷ ws

-- the words between the commas of a text, one more than it has commas
unfoldable pub words : List ℕ → List (List ℕ)
words [] = [] ∷ []
words (b ∷ bs) = let ws = words bs in cond (eqb b comma) ([] ∷ ws) (joined (b ∷ []) ws)

-- the words of a list: an empty text has none
unfoldable pub listed : List ℕ → List (List ℕ)
listed [] = []
listed (b ∷ bs) = words (b ∷ bs)

-- whether every word is a whole number of one to nine digits
unfoldable pub all_whole : List (List ℕ) → Bool
all_whole [] = true
all_whole (w ∷ ws) = is_whole w && all_whole ws

-- whether a text is a list of starts
unfoldable pub is_list : List ℕ → Bool
is_list text = all_whole (listed text)

-- the starts that a text lists, none where it is no list
unfoldable pub starts_in : List ℕ → List ℕ
starts_in text = cond (is_list text) (map spelled (listed text)) []

-- what a text of starts is read as
unfoldable pub starts_read : List ℕ → Option ℕ
starts_read text = cond (is_list text) (Some (length (starts_in text))) None
