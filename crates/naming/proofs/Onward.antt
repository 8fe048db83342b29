-- One more item is passed: what holds of the index and of numbers, and an item that is a number.
use Prim.Native.Nat.{ℕ, ◌+◌, ◌<◌}
use mathlib.Core.Path.{◌≡◌, refl, sym, ap, subst, ◌∙◌}
use mathlib.Core.Bool.{Bool, true, false}
use mathlib.Core.List.{List}
use native.Mathlib.Nat.{not-suc-le-zero}
use native.Mathlib.Decide.{dec_lt}
use native.Mathlib.Omega.{arith}
use lib.ListN.{length, get_or, set, replicate, length-replicate}
use lib.Seq.{get_or-set_same, get_or-set_other}
use Rattle.laws.proofs.Search.{contrary, by_order}
use Rattle.laws.proofs.Linked.{last_none}
use Rattle.grammar.specs.Said.{Role, Said, name, number, Item}
use Rattle.grammar.specs.Tree.{Word}
use Rattle.notes.specs.Notes.{notes_most}
use Rattle.supplied.specs.Names.{Kind, actions, facts, levels, lines, kind_of, kind_number, appearing, number_of}
use Rattle.naming.specs.Index.{key_count, unlinked, index_size, said_at, says, is_first, key, Indexed}
use Rattle.naming.specs.Passed.{Passed}
use Rattle.naming.proofs.Firsts.{says_name, first_none, number_later}
use Rattle.naming.proofs.Linking.{links_same}
use Rattle.naming.proofs.Numbering.{names_to, keeps_number}
use Rattle.naming.proofs.Numbering.{number_leaves}
use Rattle.naming.proofs.Clashing.{passes_number, onward_more}
use Rattle.naming.proofs.Marks.{unmarked}

-- nothing has been passed
pub passed_start :
    (is : List Item) (index numbers : List ℕ) → length index ≡ index_size → ((j : ℕ) → j < index_size → get_or index j 0 ≡ unlinked)
    → length numbers ≡ notes_most → Passed is 0 index numbers (replicate notes_most false) (replicate 4 0)
unfolding appearing
passed_start is index numbers size empty long = record {
  indexed = record {
    size = size;
    linked = record {
      lasts = λ f h. last_none unlinked (key is) f (get_or index f 0) (omega (arith, empty f (omega arith)));
      befores = λ k h. absurd (not-suc-le-zero h);
    };
    kinds = λ i j r q w h. absurd (not-suc-le-zero h);
  };
  fresh = λ j l h. empty (key_count + j) (omega arith);
  numbers_size = long;
  marks_size = length-replicate {A = Bool} notes_most false;
  counts_size = refl;
  numbered = λ j r w h. absurd (not-suc-le-zero h);
  counted = λ κ. counts κ;
  marked = λ j w h. absurd (not-suc-le-zero h);
  onward = λ o. refl;
}
  where
    counts : (κ : Kind) → get_or {A = ℕ} (replicate 4 0) (kind_number κ) 0 ≡ 0
    counts actions = refl
    counts facts = refl
    counts levels = refl
    counts lines = refl

module _ (is : List Item) (k : ℕ) where
  abbrev pub Kinds : ℕ → Type 0
  Kinds m = (i j : ℕ) (r q : Role) (w : Word) → i < m → j < m → said_at is i ≡ name r w → said_at is j ≡ name q w → kind_of r ≡ kind_of q

  pub kinds_more :
      Kinds k → ((j : ℕ) (r q : Role) (w : Word) → j < k → said_at is k ≡ name r w → said_at is j ≡ name q w → kind_of q ≡ kind_of r)
      → Kinds (k + 1)
  kinds_more old one i j r q w a b e f =
      elim (dec_lt i k) [
        | yes h ↦
            elim (dec_lt j k) [
              | yes g ↦ old i j r q w h g e f
              | no g ↦ one i q r w h (ap (said_at is) (let z : k ≡ j = omega arith in z) ∙ f) e
            ]
        | no h ↦
            let p : said_at is k ≡ name r w = ap (said_at is) (let z : k ≡ i = omega arith in z) ∙ e in
            elim (dec_lt j k) [
              | yes g ↦ sym (one j r q w g p f)
              | no g ↦
                  let s : said_at is k ≡ name q w = ap (said_at is) (let z : k ≡ j = omega arith in z) ∙ f in
                  ap kind_of (let z : r ≡ q = cc in z)
            ]
      ]

  abbrev pub Numbering : ℕ → List ℕ → Type 0
  Numbering m numbers =
      (j : ℕ) (r : Role) (w : Word) → j < m → said_at is j ≡ name r w → get_or numbers j 0 ≡ number_of w (names_to is (kind_of r) m)

  pub numbers_more :
      (numbers : List ℕ) (v : ℕ) → k < length is → k < length numbers → Numbering k numbers
      → ((r : Role) (w : Word) → said_at is k ≡ name r w → v ≡ number_of w (names_to is (kind_of r) (k + 1)))
      → Numbering (k + 1) (set numbers k v)
  numbers_more numbers v h long old here j r w l e =
      elim (dec_lt j k) [
        | yes g ↦
            get_or-set_other numbers k j v 0 (omega arith) ∙ old j r w g e ∙ sym (keeps_number is k j h g e)
        | no g ↦
            let q : k ≡ j = omega arith in
            subst (λ i. get_or (set numbers k v) i 0 ≡ number_of w (names_to is (kind_of r) (k + 1))) q
            (get_or-set_same numbers k v 0 long ∙ here r w (ap (said_at is) q ∙ e))
      ]

  same_numbers :
      (numbers : List ℕ) → k < length is → Numbering k numbers
      → ((r : Role) (w : Word) → said_at is k ≡ name r w → ⊥) → Numbering (k + 1) numbers
  same_numbers numbers h old none j r w l e =
      elim (dec_lt j k) [
        | yes g ↦ old j r w g e ∙ sym (keeps_number is k j h g e)
        | no g ↦ absurd (none r w (ap (said_at is) (let q : k ≡ j = omega arith in q) ∙ e))
      ]

pub number_no_name : {s : Said} {n : ℕ} {r : Role} {w : Word} → s ≡ number n → s ≡ name r w → ⊥
number_no_name e f = let z : ◌≡◌ {A = ℕ} 0 1 = cc in omega arith

-- two first appearances of one name are one
pub first_one :
    (is : List Item) (i j : ℕ) (w : Word) → is_first is i ≡ true → is_first is j ≡ true → says w (said_at is i) ≡ true
    → says w (said_at is j) ≡ true → i ≡ j
first_one is i j w a b e f =
    by_order i j
    (λ l. contrary e (first_none is j b (says_name (said_at is j) f).1 i l))
    (λ l. contrary f (first_none is i a (says_name (said_at is i) e).1 j l))
    (λ q. q)

module _ {is : List Item} {k : ℕ} {index numbers : List ℕ} {marks : List Bool} {counts : List ℕ} (passed : Passed is k index numbers marks counts)
    (h : k < length is) (few : k < unlinked) where
  -- an item that is not linked leaves the index
  pub still :
      is_first is k ≡ false → ((j : ℕ) (r q : Role) (w : Word) → j < k → said_at is k ≡ name r w → said_at is j ≡ name q w → kind_of q ≡ kind_of r)
      → Indexed is (k + 1) index
  still f kinds = record {
    size = passed.indexed.size;
    linked = links_same is index k passed.indexed.size few passed.indexed.linked f (passed.fresh k (omega arith) (omega arith));
    kinds = kinds_more is k passed.indexed.kinds kinds;
  }

  pub passed_number : {n : ℕ} → said_at is k ≡ number n → Passed is (k + 1) index numbers marks counts
  unfolding says
  passed_number e = record {
    indexed = still (number_later is k e) (λ j r q w l f. absurd (number_no_name e f));
    fresh = λ j l. passed.fresh j (omega arith);
    numbers_size = passed.numbers_size;
    marks_size = passed.marks_size;
    counts_size = passed.counts_size;
    numbered = same_numbers is k numbers h passed.numbered (λ r w f. number_no_name e f);
    counted = λ κ. passed.counted κ ∙ sym (ap length (number_leaves is k h κ e));
    marked = λ j w l f s.
        elim (dec_lt j k) [
          | yes g ↦
              passed.marked j w g f s ∙ unmarked is k w (ap (says w) e)
          | no g ↦ contrary f (ap (is_first is) (let q : j ≡ k = omega arith in q) ∙ number_later is k e)
        ];
    onward = onward_more is k passed.onward h (passes_number is k (omega arith) e);
  }
