-- Notes beside the numbers of their names.
use Prim.Native.Nat.{ℕ, suc, ◌≤◌, ◌<◌}
use mathlib.Core.Path.{◌≡◌}
use mathlib.Core.Bool.{true}
use mathlib.Core.List.{List, ◌∷◌}
use native.Mathlib.Nat.{le_of_suc-le-suc}
use native.Mathlib.Omega.{arith}
use lib.ListN.{length, get_or}
use lib.Seq.{slice}
use Rattle.grammar.specs.Tree.{Word}
use Rattle.notes.specs.Notes.{role_in, name_at, name_end, roles, role_of}
use Rattle.supplied.specs.Names.{Kind, kind_of, is_in, number_of}

-- the word of a note, and the number of it among the names of its kind
abbrev pub word_of : List ℕ → ℕ → Word
word_of text w = slice (name_at w) (name_end w) text

abbrev pub kind_in : ℕ → Kind
kind_in w = kind_of (role_of (role_in w))

module _ (text : List ℕ) (names : Kind → List Word) where
  abbrev pub count : ℕ → ℕ
  count w = number_of (word_of text w) (names (kind_in w))

  -- a note, and the number of its name if it is one
  pub record Fits (w n : ℕ) : Type 0 where
    pub known : role_in w < roles
    pub among : (role_in w ≡ 0 → ⊥) → is_in (word_of text w) (names (kind_in w)) ≡ true
    pub counted : (role_in w ≡ 0 → ⊥) → n ≡ count w

  pub record Matched (ws ns : List ℕ) : Type 0 where
    pub enough : length ws ≤ length ns
    pub each : (k : ℕ) → k < length ws → Fits (get_or ws k 0) (get_or ns k 0)

  pub matched_first : {w n : ℕ} {ws ns : List ℕ} → Matched (w ∷ ws) (n ∷ ns) → Fits w n
  matched_first m = m.each 0 (omega arith)

  pub matched_rest : {w n : ℕ} {ws ns : List ℕ} → Matched (w ∷ ws) (n ∷ ns) → Matched ws ns
  matched_rest m = record { enough = le_of_suc-le-suc m.enough; each = λ k l. m.each (suc k) (omega arith) }
