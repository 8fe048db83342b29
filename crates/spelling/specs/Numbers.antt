-- What a number is. "W has one to nine digits; T one to six, then at will a point and one to three, a tick being a
-- thousandth."
use Rattle.std.specs.Prelude.{ℕ, ◌+◌, ◌-◌, ◌*◌, ◌^◌, ◌<◌, Bool, cond, ◌||◌, ◌&&◌, List, [], ◌∷◌, Option, Some, None, eqb, leb, length, get_or, take, drop}
use Rattle.laws.specs.Search.{all, lowest}
use Rattle.spelling.specs.Names.{is_digit}

-- from one to so many digits
unfoldable pub are_digits : ℕ → List ℕ → Bool
are_digits most w = (leb 1 (length w) && leb (length w) most) && all (length w) (λ k. is_digit (get_or w k 0))

-- the number that digits spell behind another
unfoldable pub spelled_from : ℕ → List ℕ → ℕ
spelled_from n [] = n
spelled_from n (b ∷ w) = spelled_from (10 * n + (b - 48)) w

abbrev pub spelled : List ℕ → ℕ
spelled w = spelled_from 0 w

-- W
abbrev pub whole_most : ℕ
whole_most = 9

unfoldable pub is_whole : List ℕ → Bool
is_whole w = are_digits whole_most w

-- where the point stands, or the word's end
unfoldable pub point_at : List ℕ → ℕ
point_at w = lowest (length w) (λ k. eqb (get_or w k 0) 46)

-- what stands before the point, and behind it
abbrev pub before_point : List ℕ → List ℕ
before_point w = take (point_at w) w

abbrev pub behind_point : List ℕ → List ℕ
behind_point w = drop (point_at w + 1) w

-- T
unfoldable pub is_time : List ℕ → Bool
is_time w = are_digits 6 (before_point w) && (eqb (point_at w) (length w) || are_digits 3 (behind_point w))

-- T in ticks
unfoldable pub ticks : List ℕ → ℕ
ticks w = 1000 * spelled (before_point w) + spelled (behind_point w) * 10 ^ (3 - length (behind_point w))

-- digits, a W and a T as read
unfoldable pub digits_of : ℕ → List ℕ → Option ℕ
digits_of most w = cond (are_digits most w) (Some (spelled w)) None

-- a number of so many digits
abbrev pub Below : ℕ → Option ℕ → Type 0
Below most (Some n) = n < 10 ^ most
Below most None = Unit

unfoldable pub whole_of : List ℕ → Option ℕ
whole_of w = cond (is_whole w) (Some (spelled w)) None

unfoldable pub time_of : List ℕ → Option ℕ
time_of w = cond (is_time w) (Some (ticks w)) None
