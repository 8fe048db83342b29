-- Words, names and numbers, computed.
use mathlib.Core.Path.{◌≡◌, refl}
use mathlib.Core.Bool.{true, false}
use mathlib.Core.List.{[], ◌∷◌}
use Rattle.std.specs.Prelude.{Some, None}
use Rattle.laws.specs.Search.{all, lowest}
use Rattle.spelling.specs.Tokens.{mark, word, stop, placed, is_blank, is_mark, in_word, line_after, joins, grown, with_byte, tokens}
use Rattle.spelling.specs.Keywords.{same, codes}
use Rattle.spelling.specs.Names.{is_letter, is_digit, is_name_byte, is_reserved, is_name}
use Rattle.spelling.specs.Numbers.{are_digits, spelled_from, is_whole, point_at, is_time, ticks, whole_of, time_of}

-- outside a plan a colon stands inside a word, and a line end parts two words
action_words :
    tokens false 0 (codes "(:goal\n (a-1))")
    ≡ placed (mark 40) 0 ∷ placed (word (codes ":goal")) 0 ∷ placed (mark 40) 1 ∷ placed (word (codes "a-1")) 1
    ∷ placed (mark 41) 1 ∷ placed (mark 41) 1 ∷ placed stop 1 ∷ []
unfolding tokens with_byte is_blank is_mark in_word line_after joins grown
action_words = refl

-- in a plan a colon stands for itself, and a line end too, on the line that it ends
plan_words :
    tokens true 0 (codes "12:[\na")
    ≡ placed (word (codes "12")) 0 ∷ placed (mark 58) 0 ∷ placed (mark 91) 0 ∷ placed (mark 10) 0 ∷ placed (word (97 ∷ [])) 1
    ∷ placed stop 1 ∷ []
unfolding tokens with_byte is_blank is_mark in_word line_after joins grown
plan_words = refl

-- 31 bytes, and 32
longest_name : is_name (codes "Barrier-2_xxxxxxxxxxxxxxxxxxxxx") ≡ true
unfolding is_name is_letter is_name_byte is_digit is_reserved same all
longest_name = refl

longer_name : is_name (codes "Barrier-2_xxxxxxxxxxxxxxxxxxxxxx") ≡ false
unfolding is_name is_letter is_name_byte is_digit is_reserved same all
longer_name = refl

-- capitals are distinct
reserved_at : is_name (codes "at") ≡ false
unfolding is_name is_letter is_name_byte is_digit is_reserved same all
reserved_at = refl

capital_at : is_name (codes "At") ≡ true
unfolding is_name is_letter is_name_byte is_digit is_reserved same all
capital_at = refl

-- a letter comes first, and a point nowhere
digit_first : is_name (codes "1a") ≡ false
unfolding is_name is_letter is_name_byte is_digit is_reserved same all
digit_first = refl

point_inside : is_name (codes "a.") ≡ false
unfolding is_name is_letter is_name_byte is_digit is_reserved same all
point_inside = refl

-- nine digits, and ten
nine_digits : whole_of (codes "999999999") ≡ Some 999999999
unfolding whole_of is_whole are_digits is_digit spelled_from all
nine_digits = refl

ten_digits : whole_of (codes "0000000000") ≡ None
unfolding whole_of is_whole are_digits is_digit spelled_from all
ten_digits = refl

-- times in ticks
whole_seconds : time_of (codes "12") ≡ Some 12000
unfolding time_of is_time ticks point_at are_digits is_digit spelled_from all lowest
whole_seconds = refl

part_seconds : time_of (codes "0.05") ≡ Some 50
unfolding time_of is_time ticks point_at are_digits is_digit spelled_from all lowest
part_seconds = refl

longest_time : time_of (codes "999999.999") ≡ Some 999999999
unfolding time_of is_time ticks point_at are_digits is_digit spelled_from all lowest
longest_time = refl

-- what is no time
seven_digits : time_of (codes "1000000") ≡ None
unfolding time_of is_time ticks point_at are_digits is_digit spelled_from all lowest
seven_digits = refl

no_decimals : time_of (codes "1.") ≡ None
unfolding time_of is_time ticks point_at are_digits is_digit spelled_from all lowest
no_decimals = refl

no_whole : time_of (codes ".5") ≡ None
unfolding time_of is_time ticks point_at are_digits is_digit spelled_from all lowest
no_whole = refl

four_decimals : time_of (codes "1.0000") ≡ None
unfolding time_of is_time ticks point_at are_digits is_digit spelled_from all lowest
four_decimals = refl

two_points : time_of (codes "1.2.3") ≡ None
unfolding time_of is_time ticks point_at are_digits is_digit spelled_from all lowest
two_points = refl
