-- What a name is. "N is a letter, then letters, digits, - or _, up to 31 bytes, capitals distinct, but not at, over, and,
-- not, increase or decrease."
use Rattle.std.specs.Prelude.{ℕ, Bool, not, ◌||◌, ◌&&◌, List, eqb, leb, length, get_or}
use Rattle.laws.specs.Search.{all}
use Rattle.spelling.specs.Keywords.{same, at_word, over_word, and_word, not_word, increase_word, decrease_word}

unfoldable pub is_letter : ℕ → Bool
is_letter b = (leb 65 b && leb b 90) || (leb 97 b && leb b 122)

unfoldable pub is_digit : ℕ → Bool
is_digit b = leb 48 b && leb b 57

unfoldable pub is_name_byte : ℕ → Bool
is_name_byte b = ((is_letter b || is_digit b) || eqb b 45) || eqb b 95

-- a word that is no name
unfoldable pub is_reserved : List ℕ → Bool
is_reserved w =
    ((((same w at_word || same w over_word) || same w and_word) || same w not_word) || same w increase_word) || same w decrease_word

abbrev pub name_most : ℕ
name_most = 31

unfoldable pub is_name : List ℕ → Bool
is_name w =
    ((leb (length w) name_most && is_letter (get_or w 0 0)) && all (length w) (λ k. is_name_byte (get_or w k 0))) && not (is_reserved w)
