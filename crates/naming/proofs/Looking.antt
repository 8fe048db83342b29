-- What the note of a first appearance holds: a name that lies in the text.
use Prim.Native.Nat.{ℕ, zero, suc, ◌-◌, ◌≤◌, ◌<◌}
use mathlib.Core.Path.{◌≡◌, sym, ap, subst, ◌∙◌}
use mathlib.Core.Bool.{Bool, true}
use mathlib.Core.List.{List, [], ◌∷◌}
use native.Mathlib.Omega.{arith}
use lib.ListN.{length, get_or, take, drop}
use lib.Seq.{slice, take-nil}
use Rattle.std.specs.Prelude.{Option}
use Rattle.laws.proofs.Search.{contrary}
use Rattle.spelling.specs.Keywords.{same}
use Rattle.grammar.specs.Said.{Item}
use Rattle.grammar.specs.Tree.{Word}
use Rattle.notes.specs.Notes.{role_in, name_at, name_end, items_in}
use Rattle.naming.specs.Index.{said_at, says, is_first}
use Rattle.naming.specs.Named.{Readable}
use Rattle.naming.specs.Passed.{Looked}
use Rattle.naming.proofs.Firsts.{number_at_lem, name_at_lem, number_later}

module _ (text said : List ℕ) (j : ℕ) (first : is_first (items_in text said) j ≡ true) where
  first_role_lem : role_in (get_or said j 0) ≡ 0 → ⊥
  first_role_lem e = contrary first (number_later (items_in text said) j (number_at_lem text said j e))

  pub first_inside : Readable text said → j < length said → name_end (get_or said j 0) ≤ length text
  first_inside sound l = (sound.each j l).inside first_role_lem

  pub first_same :
      {p q : ℕ} {y : Bool} (word : Word) → p ≡ name_at (get_or said j 0) → q ≡ name_end (get_or said j 0) → y ≡ same (slice p q text) word
      → y ≡ says word (said_at (items_in text said) j)
  unfolding says
  first_same word e f g = g ∙ rw (e, f) (sym (ap (says word) (name_at_lem text said j first_role_lem)))

-- a part of a text in the code, and in the definitions
pub part_slice : (u v : ℕ) (l : List ℕ) → take (v - u) (drop u l) ≡ slice u v l
part_slice zero v l = ap (λ n. take n l) (let e : v - 0 ≡ v = omega arith in e)
part_slice (suc u) zero l = ap (λ n. take n (drop (suc u) l)) (let e : 0 - suc u ≡ 0 = omega arith in e)
part_slice (suc u) (suc v) [] = take-nil (suc v - suc u)
part_slice (suc u) (suc v) (x ∷ l) = ap (λ n. take n (drop u l)) (let e : suc v - suc u ≡ v - u = omega arith in e) ∙ part_slice u v l

pub looked_part :
    (is : List Item) (m : ℕ) (r : Option ℕ) (at end : ℕ) (l : List ℕ) → Looked is m (take (end - at) (drop at l)) r → Looked is m (slice at end l) r
looked_part is m r at end l w = subst (λ v. Looked is m v r) (part_slice at end l) w
