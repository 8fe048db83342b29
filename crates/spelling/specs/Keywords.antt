-- The words of the grammar, and when two words are the same.
use Rattle.std.specs.Prelude.{ℕ, Bool, true, false, ◌&&◌, List, [], ◌∷◌, eqb}
use Prim.Native.Char.{code}
use Prim.Native.String.{String, [] as []ˢ, ◌∷◌ as ◌∷ˢ◌}

-- whether two words are the same bytes
unfoldable pub same : List ℕ → List ℕ → Bool
same [] [] = true
same [] (b ∷ v) = false
same (a ∷ w) [] = false
same (a ∷ w) (b ∷ v) = eqb a b && same w v

-- the codes of a text's characters, which are its bytes where all are ASCII
abbrev pub codes : String → List ℕ
codes []ˢ = []
codes (c ∷ˢ s) = code c ∷ codes s

abbrev pub at_word : List ℕ
at_word = codes "at"

abbrev pub over_word : List ℕ
over_word = codes "over"

abbrev pub and_word : List ℕ
and_word = codes "and"

abbrev pub not_word : List ℕ
not_word = codes "not"

abbrev pub increase_word : List ℕ
increase_word = codes "increase"

abbrev pub decrease_word : List ℕ
decrease_word = codes "decrease"

abbrev pub start_word : List ℕ
start_word = codes "start"

abbrev pub end_word : List ℕ
end_word = codes "end"

abbrev pub all_word : List ℕ
all_word = codes "all"

abbrev pub durative_word : List ℕ
durative_word = codes ":durative-action"

abbrev pub duration_word : List ℕ
duration_word = codes ":duration"

abbrev pub equals_word : List ℕ
equals_word = codes "="

abbrev pub asked_word : List ℕ
asked_word = codes "?duration"

abbrev pub condition_word : List ℕ
condition_word = codes ":condition"

abbrev pub effect_word : List ℕ
effect_word = codes ":effect"

abbrev pub init_word : List ℕ
init_word = codes ":init"

abbrev pub goal_word : List ℕ
goal_word = codes ":goal"
