-- Between crates: the search through a list's pairs as two loops make it, each element with those behind it.
use Rattle.std.specs.Prelude.{ℕ, ◌+◌, Bool, false, cond, List, [], ◌∷◌}
use Rattle.against.specs.declared.Search.{Search}

-- so many pairs were compared, and none was found
abbrev pub past : ℕ → Search
past n = record { compared = n; found = false }

infixr 20 ◌onward◌
-- one search after another, if the first has found nothing
unfoldable pub ◌onward◌ : Search → Search → Search
a onward b = cond a.found a (record { compared = a.compared + b.compared; found = b.found })

-- an element with each of those behind it
unfoldable pub with_higher : (ℕ → ℕ → Bool) → ℕ → List ℕ → Search
with_higher test e [] = past 0
with_higher test e (f ∷ fs) = record { compared = 1; found = test e f } onward with_higher test e fs

-- each element as the lower one of its pairs
unfoldable pub through_pairs : (ℕ → ℕ → Bool) → List ℕ → Search
through_pairs test [] = past 0
through_pairs test (e ∷ es) = with_higher test e es onward through_pairs test es
