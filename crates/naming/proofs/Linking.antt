-- The key of a word, how the index grows, and a search along the links of a key.
use Prim.Native.Nat.{ℕ, ◌+◌, ◌*◌, ◌%◌, ◌≤◌, ◌<◌}
use mathlib.Core.Path.{◌≡◌, sym, ap, subst, ◌∙◌}
use mathlib.Core.Bool.{Bool, true, false, ◌&&◌}
use mathlib.Core.List.{List, [], ◌∷◌}
use mathlib.Core.Logic.{⊎_elim}
use native.Mathlib.Decide.{dec_lt}
use native.Mathlib.Numerals.{add-one}
use native.Mathlib.Omega.{arith}
use lib.ListN.{length, get_or, set, drop, length-set, drop_of_length-le}
use Rattle.std.specs.Prelude.{None}
use lib.Seq.{drop-cons, get_or-set_same, get_or-set_other}
use Rattle.laws.specs.Linked.{LastBefore, LinkedBack}
use Rattle.laws.proofs.Linked.{WalkBack, last_here, last_other}
use Rattle.laws.proofs.Search.{either, and_both, by_order}
use Rattle.grammar.specs.Said.{Role, name, Item}
use Rattle.grammar.specs.Tree.{Word}
use Rattle.supplied.specs.Plan.{word_in}
use Rattle.naming.specs.Index.{key_count, unlinked, index_size, said_at, says, is_first, mixed, key}
use Rattle.naming.specs.Passed.{Appears, Looked}
use Rattle.naming.proofs.Firsts.{says_name, first_name, has_first}

-- a loop mixes in the bytes of a word
module _ (word : List ℕ) where
  pub mix_more :
      (h k b : ℕ) → k < length word → mixed 0 word ≡ mixed h (drop k word) → b ≡ get_or word k 0
      → mixed 0 word ≡ mixed ((h * 31 + b) % key_count) (drop (k + 1) word)
  unfolding mixed
  mix_more h k b l e f = e ∙ rw (drop-cons word k 0 l, add-one k, f)

  pub mix_end : (h k : ℕ) → length word ≤ k → mixed 0 word ≡ mixed h (drop k word) → h ≡ mixed 0 word
  unfolding mixed
  mix_end h k l e = sym (e ∙ ap (mixed h) (drop_of_length-le word l))

pub mixed_low : (w : Word) (h : ℕ) → h < key_count → mixed h w < key_count
unfolding mixed
mixed_low [] h l = l
mixed_low (b ∷ w) h l = mixed_low w ((h * 31 + b) % key_count) (omega arith)

module _ (is : List Item) where
  pub key_first : (k : ℕ) {r : Role} {w : Word} → is_first is k ≡ true → said_at is k ≡ name r w → key is k ≡ mixed 0 w
  unfolding key word_in
  key_first k e q = rw (e, q)

  key_later : (k : ℕ) → is_first is k ≡ false → key is k ≡ key_count + k
  unfolding key
  key_later k e = rw e

  -- a key that some name has is that of a first appearance
  low_first : (k : ℕ) → key is k < key_count → is_first is k ≡ true
  low_first k l =
      ⊎_elim (λ (t : is_first is k ≡ true). t) (λ (f : is_first is k ≡ false). absurd (omega (arith, key_later k f))) (either (is_first is k))

  -- no item before it has the number of one that is not linked
  own_key : (k j : ℕ) → j < k → is_first is k ≡ false → key is j ≡ key is k → ⊥
  own_key k j l f e =
      let h = key_later k f in
      ⊎_elim
      (λ (t : is_first is j ≡ true).
      let w = first_name is j t in
      let low = mixed_low w.1 0 (omega arith) in
      let q = key_first j t w.2 in
      omega arith)
      (λ (g : is_first is j ≡ false). omega (arith, key_later j g))
      (either (is_first is j))

module _ (n keys : ℕ) (key : ℕ → ℕ) (k : ℕ) (few : k < n) (last before : ℕ → ℕ) (old : LinkedBack n keys key k last before) where
  -- an index becomes the last of its key, behind the one that was
  linked_more :
      (last' before' : ℕ → ℕ) → key k < keys → last' (key k) ≡ k → ((f : ℕ) → f < keys → (f ≡ key k → ⊥) → last' f ≡ last f)
      → before' k ≡ last (key k) → ((j : ℕ) → j < k → before' j ≡ before j) → LinkedBack n keys key (k + 1) last' before'
  linked_more last' before' low here others link rest = record {
    lasts = λ f h.
        let other : (f ≡ key k → ⊥) → LastBefore n key f (k + 1) (last' f) =
        λ ne. subst (LastBefore n key f (k + 1)) (sym (others f h ne)) (last_other n key f k (last f) (λ e. ne (sym e)) (old.lasts f h)) in
        by_order f (key k)
        (λ l. other (λ e. omega arith))
        (λ l. other (λ e. omega arith))
        (λ e. subst (λ g. LastBefore n key g (k + 1) (last' g)) (sym e)
        (subst (LastBefore n key (key k) (k + 1)) (sym here) (last_here n key k few)));
    befores = λ j l.
        elim (dec_lt j k) [
          | yes g ↦ subst (LastBefore n key (key j) j) (sym (rest j g)) (old.befores j g)
          | no g ↦
              subst (λ i. LastBefore n key (key i) i (before' i)) (let q : k ≡ j = omega arith in q)
              (subst (LastBefore n key (key k) k) (sym link) (old.lasts (key k) low))
        ];
  }

  -- an index with a key of its own is not linked
  linked_pass : keys ≤ key k → n ≤ before k → ((j : ℕ) → j < k → key j ≡ key k → ⊥) → LinkedBack n keys key (k + 1) last before
  linked_pass high none own = record {
    lasts = λ f h. last_other n key f k (last f) (λ e. omega arith) (old.lasts f h);
    befores = λ j l.
        elim (dec_lt j k) [
          | yes g ↦ old.befores j g
          | no g ↦
              subst (λ i. LastBefore n key (key i) i (before i)) (let q : k ≡ j = omega arith in q)
              (record { there = λ h. absurd (omega arith); last = λ i h e. absurd (own i h e) })
        ];
  }

module _ (is : List Item) (index : List ℕ) (k : ℕ) (size : length index ≡ index_size) (few : k < unlinked) where
  abbrev Links : ℕ → List ℕ → Type 0
  Links m list = LinkedBack unlinked key_count (key is) m (λ f. get_or list f 0) (λ j. get_or list (key_count + j) 0)

  -- an item is linked, or is not
  pub links_new :
      Links k index → key is k < key_count
      → Links (k + 1) (set (set index (key_count + k) (get_or index (key is k) 0)) (key is k) k)
  links_new old low =
      let put : List ℕ = set index (key_count + k) (get_or index (key is k) 0) in
      linked_more unlinked key_count (key is) k few (λ f. get_or index f 0) (λ j. get_or index (key_count + j) 0) old
      (λ f. get_or (set put (key is k) k) f 0) (λ j. get_or (set put (key is k) k) (key_count + j) 0) low
      (get_or-set_same put (key is k) k 0 (omega (arith, length-set index (key_count + k) (get_or index (key is k) 0))))
      (λ f h ne. get_or-set_other put (key is k) f k 0 ne ∙ get_or-set_other index (key_count + k) f (get_or index (key is k) 0) 0 (omega arith))
      (get_or-set_other put (key is k) (key_count + k) k 0 (omega arith)
      ∙ get_or-set_same index (key_count + k) (get_or index (key is k) 0) 0 (omega arith))
      (λ j l.
      get_or-set_other put (key is k) (key_count + j) k 0 (omega arith)
      ∙ get_or-set_other index (key_count + k) (key_count + j) (get_or index (key is k) 0) 0 (omega arith))

  pub links_same : Links k index → is_first is k ≡ false → get_or index (key_count + k) 0 ≡ unlinked → Links (k + 1) index
  links_same old f e =
      linked_pass unlinked key_count (key is) k few (λ f. get_or index f 0) (λ j. get_or index (key_count + j) 0) old
      (omega (arith, key_later is k f)) (omega arith) (λ j l. own_key is k j l f)

-- whether an item is the first appearance of a name
unfoldable pub is_first_of : List Item → Word → ℕ → Bool
is_first_of is v k = is_first is k && says v (said_at is k)

module _ (is : List Item) (v : Word) where
  pub own : (k : ℕ) → is_first_of is v k ≡ true → key is k ≡ mixed 0 v
  unfolding is_first_of
  own k e =
      let p = and_both (is_first is k) _ e in
      key_first is k p.0 (says_name (said_at is k) p.1).1

  pub walk_first : (m at : ℕ) → WalkBack (key is) (mixed 0 v) (is_first_of is v) m at → at < m → is_first is at ≡ true
  walk_first m at w l = low_first is at (omega (arith, w.there l, mixed_low v 0 (omega arith)))

  pub first_says : (at : ℕ) {y : Bool} → is_first is at ≡ true → y ≡ says v (said_at is at) → y ≡ is_first_of is v at
  unfolding is_first_of
  first_says at f e = e ∙ rw f

  pub looked_here : (m at : ℕ) {y : Bool} → at < m → is_first is at ≡ true → y ≡ says v (said_at is at) → y ≡ true → Appears is m v at
  looked_here m at l f e t = record { within = l; first = f; there = sym e ∙ t }

  pub looked_none : (m at : ℕ) → WalkBack (key is) (mixed 0 v) (is_first_of is v) m at → m ≤ at → Looked is m v None
  unfolding is_first_of
  looked_none m at w l j h =
      ⊎_elim
      (λ (t : says v (said_at is j) ≡ true).
      let f = has_first is v m j h t in
      absurd (omega (arith, (w.rest f.0 f.1 (rw f.2 f.3)).1)))
      (λ (n : says v (said_at is j) ≡ false). n)
      (either (says v (said_at is j)))
