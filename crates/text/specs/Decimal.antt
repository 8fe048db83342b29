-- A number in decimal digits, and a word with a number behind it. Bytes are ASCII codes.
use Rattle.std.specs.Prelude.{ℕ, zero, suc, ◌+◌, ◌/◌, ◌%◌, cond, List, [], ◌∷◌, ◌++◌, ltb}

-- the decimal digits of n, most significant first, as far as the fuel goes: any above n is enough
unfoldable pub digits : ℕ → ℕ → List ℕ
digits zero n = []
digits (suc fuel) n =
    let more = digits fuel (n / 10) ++ ((48 + n % 10) ∷ []) in cond (ltb n 10) ((48 + n) ∷ []) more

-- a number in the fewest decimal digits, most significant first: `0` for 0
unfoldable pub decimal : ℕ → List ℕ
decimal n = digits (suc n) n

-- a word and the number behind it
abbrev pub field : List ℕ → ℕ → List ℕ
field word n = word ++ decimal n
