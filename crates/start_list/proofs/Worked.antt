-- Lists of starts, and texts that are none, computed.
use mathlib.Core.Path.{◌≡◌, refl}
use mathlib.Core.List.{[], ◌∷◌}
use Rattle.std.specs.Prelude.{Some, None}
use Rattle.laws.specs.Search.{all}
use Rattle.spelling.specs.Names.{is_digit}
use Rattle.spelling.specs.Keywords.{codes}
use Rattle.spelling.specs.Numbers.{are_digits, spelled_from, is_whole}
use Rattle.start_list.specs.Starts.{joined, words, listed, all_whole, is_list, starts_in, starts_read}

three_starts : (starts_read (codes "0,6,20") ≡ Some 3) × (starts_in (codes "0,6,20") ≡ 0 ∷ 6 ∷ 20 ∷ [])
unfolding starts_read starts_in is_list all_whole listed words joined is_whole are_digits is_digit spelled_from all
three_starts = (refl, refl)

no_text : (starts_read [] ≡ Some 0) × (starts_in [] ≡ [])
unfolding starts_read starts_in is_list all_whole listed
no_text = (refl, refl)

one_start : (starts_read (codes "7") ≡ Some 1) × (starts_in (codes "7") ≡ 7 ∷ [])
unfolding starts_read starts_in is_list all_whole listed words joined is_whole are_digits is_digit spelled_from all
one_start = (refl, refl)

zeros_before : starts_in (codes "007") ≡ 7 ∷ []
unfolding starts_in is_list all_whole listed words joined is_whole are_digits is_digit spelled_from all
zeros_before = refl

nine_digits : starts_in (codes "1,999999999") ≡ 1 ∷ 999999999 ∷ []
unfolding starts_in is_list all_whole listed words joined is_whole are_digits is_digit spelled_from all
nine_digits = refl

ten_digits : starts_read (codes "1,0000000007") ≡ None
unfolding starts_read starts_in is_list all_whole listed words joined is_whole are_digits is_digit spelled_from all
ten_digits = refl

-- a comma stands between two starts
two_commas : starts_read (codes "1,,2") ≡ None
unfolding starts_read starts_in is_list all_whole listed words joined is_whole are_digits is_digit spelled_from all
two_commas = refl

comma_alone : starts_read (codes ",") ≡ None
unfolding starts_read starts_in is_list all_whole listed words joined is_whole are_digits is_digit spelled_from all
comma_alone = refl

comma_last : starts_read (codes "1,") ≡ None
unfolding starts_read starts_in is_list all_whole listed words joined is_whole are_digits is_digit spelled_from all
comma_last = refl

comma_first : starts_read (codes ",1") ≡ None
unfolding starts_read starts_in is_list all_whole listed words joined is_whole are_digits is_digit spelled_from all
comma_first = refl

-- no other byte stands in a list, a space and a sign included
letter_inside : starts_read (codes "12a") ≡ None
unfolding starts_read starts_in is_list all_whole listed words joined is_whole are_digits is_digit spelled_from all
letter_inside = refl

space_inside : starts_read (codes "1, 2") ≡ None
unfolding starts_read starts_in is_list all_whole listed words joined is_whole are_digits is_digit spelled_from all
space_inside = refl

sign_before : starts_read (codes "-1") ≡ None
unfolding starts_read starts_in is_list all_whole listed words joined is_whole are_digits is_digit spelled_from all
sign_before = refl
