-- Notes and the numbers of names match item by item, from any item on.
use Prim.Native.Nat.{ℕ, ◌+◌, ◌-◌, ◌≤◌, ◌<◌}
use mathlib.Core.Path.{◌≡◌, refl, ap, ◌∙◌}
use mathlib.Core.List.{List, []}
use native.Mathlib.Omega.{arith}
use borrow.Author.Tests.{ne_eqb}
use lib.ListN.{length, get_or, take, get_or-map}
use lib.Seq.{slice, length-slice, get_or-drop, get_or-take}
use Rattle.spelling.specs.Tokens.{text_most}
use Rattle.grammar.specs.Said.{name, Item}
use Rattle.grammar.specs.Tree.{Word}
use Rattle.notes.specs.Notes.{value_in, line_in, role_in, role_of, said_in, item_in, items_in, nothing, Sound}
use Rattle.supplied.specs.Names.{Kind, names_of}
use Rattle.job_notes.specs.Resolved.{Numbered}
use Rattle.job_notes.proofs.Fitting.{word_of, Fits, Matched}
use Rattle.job_notes.proofs.Numbering.{appears}

-- the names of a kind, in what notes of a text say
abbrev pub names_in : List ℕ → List ℕ → Kind → List Word
names_in text said k = names_of k (items_in text said)

item_at : (text said : List ℕ) (k : ℕ) → get_or (items_in text said) k nothing ≡ item_in text (get_or said k 0)
unfolding item_in said_in value_in line_in role_in
item_at text said k = get_or-map (item_in text) said k 0

name_in : (text : List ℕ) (w : ℕ) → (role_in w ≡ 0 → ⊥) → (item_in text w).said ≡ name (role_of (role_in w)) (word_of text w)
unfolding item_in said_in
name_in text w x = rw (ne_eqb (role_in w) 0 x) refl

module _
    (text said numbers : List ℕ) (sound : (k : ℕ) → k < length said → Sound text (get_or said k 0)) (few : length said ≤ text_most)
    (numbered : Numbered (items_in text said) numbers) where
  fits_at : (k : ℕ) → k < length said → Fits text (names_in text said) (get_or said k 0) (get_or numbers k 0)
  fits_at k l =
      let w = get_or said k 0 in
      let e : (role_in w ≡ 0 → ⊥) → (get_or (items_in text said) k nothing).said ≡ name (role_of (role_in w)) (word_of text w)
      = λ x. ap (λ (i : Item). i.said) (item_at text said k) ∙ name_in text w x in
      record {
        known = (sound k l).known;
        among = λ x. appears (role_of (role_in w)) (word_of text w) (items_in text said) [] k (e x);
        counted = λ x. numbered.each k (role_of (role_in w)) (word_of text w) (e x);
      }

  pub matched_from : (n a : ℕ) → n ≡ length said → Matched text (names_in text said) (slice a n said) (slice a n numbers)
  matched_from n a items =
      let p : length (slice a n said) ≡ n - a = length-slice a n said (omega arith) in
      let q : length (slice a n numbers) ≡ n - a = length-slice a n numbers (omega (arith, numbered.size)) in
      record {
        enough = omega (arith, p, q);
        each = λ k l.
            let h : a + k < n = omega (arith, p, l) in
            rw (get_or-drop a (take n said) k 0, get_or-take n said (a + k) 0 h)
            (rw (get_or-drop a (take n numbers) k 0, get_or-take n numbers (a + k) 0 h) (fits_at (a + k) (omega (arith, h))));
      }
