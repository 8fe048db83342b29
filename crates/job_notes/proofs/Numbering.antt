-- The names of a kind: each stands among them once, and its number is where.
use Prim.Native.Nat.{ℕ, zero, suc, ◌+◌, ◌<◌}
use mathlib.Core.Path.{◌≡◌, refl, sym, ap, ◌∙◌}
use mathlib.Core.Bool.{Bool, true, false, ◌||◌}
use mathlib.Core.List.{List, [], ◌∷◌, ◌++◌}
use mathlib.Core.Logic.{⊎_elim}
use native.Mathlib.Nat.{not-suc-le-zero}
use native.Mathlib.Omega.{arith}
use borrow.Author.Tests.{eq-eqb, ne_eqb}
use lib.Dec.{eqb}
use lib.ListN.{length, get_or, length-append, get_or-append}
use lib.Seq.{get_or_at}
use Rattle.laws.proofs.Search.{either, contrary, last_or_below}
use Rattle.spelling.specs.Keywords.{same}
use Rattle.spelling.proofs.Same.{same_refl, same_eq}
use Rattle.grammar.specs.Said.{Role, Said, name, number, Item}
use Rattle.grammar.specs.Tree.{Word}
use Rattle.notes.specs.Notes.{nothing}
use Rattle.supplied.specs.Names.{Kind, kind_of, kind_number, same_kind, is_in, with_word, with_said, appearing, number_of}

or_right : (a b : Bool) → b ≡ true → (a || b) ≡ true
or_right true b e = refl
or_right false b e = e

module _ (x : Word) where
  in_longer : (vs us : List Word) → is_in x vs ≡ true → is_in x (vs ++ us) ≡ true
  unfolding is_in
  in_longer [] us e = contrary e refl
  in_longer (v ∷ vs) us e =
      ⊎_elim
      (λ (q : same v x ≡ true). rw q refl)
      (λ (q : same v x ≡ false). or_right (same v x) (is_in x (vs ++ us)) (in_longer vs us (rw q at e)))
      (either (same v x))

  number_longer : (vs us : List Word) → is_in x vs ≡ true → number_of x (vs ++ us) ≡ number_of x vs
  unfolding is_in number_of
  number_longer [] us e = contrary e refl
  number_longer (v ∷ vs) us e =
      ⊎_elim
      (λ (q : same v x ≡ true). rw q refl)
      (λ (q : same v x ≡ false). rw q (ap suc (number_longer vs us (rw q at e))))
      (either (same v x))

  in_last : (vs : List Word) → is_in x (vs ++ (x ∷ [])) ≡ true
  unfolding is_in
  in_last [] = rw (same_refl x) refl
  in_last (v ∷ vs) = or_right (same v x) (is_in x (vs ++ (x ∷ []))) (in_last vs)

  number_last : (vs : List Word) → is_in x vs ≡ false → number_of x (vs ++ (x ∷ [])) ≡ length vs
  unfolding is_in number_of
  number_last [] e = rw (same_refl x) refl
  number_last (v ∷ vs) e =
      ⊎_elim
      (λ (q : same v x ≡ true). contrary (rw q refl) e)
      (λ (q : same v x ≡ false). rw q (ap suc (number_last vs (rw q at e))))
      (either (same v x))

  -- a name stands where its number says
  number_finds : (vs : List Word) → is_in x vs ≡ true → get_or vs (number_of x vs) [] ≡ x
  unfolding is_in number_of
  number_finds [] e = contrary e refl
  number_finds (v ∷ vs) e =
      ⊎_elim
      (λ (q : same v x ≡ true). rw q (same_eq v x q))
      (λ (q : same v x ≡ false). rw q (number_finds vs (rw q at e)))
      (either (same v x))

in_at : (vs : List Word) (f : ℕ) → f < length vs → is_in (get_or vs f []) vs ≡ true
unfolding is_in
in_at [] f h = absurd (not-suc-le-zero h)
in_at (v ∷ vs) zero h = rw (same_refl v) refl
in_at (v ∷ vs) (suc f) h = or_right (same v (get_or vs f [])) (is_in (get_or vs f []) vs) (in_at vs f (omega arith))

-- what stands at an index has that number
abbrev pub Distinct : List Word → Type 0
Distinct vs = (f : ℕ) → f < length vs → number_of (get_or vs f []) vs ≡ f

pub number_at_lem :
    (vs : List Word) (x : Word) (f : ℕ) → Distinct vs → is_in x vs ≡ true → f < length vs → same x (get_or vs f []) ≡ eqb (number_of x vs) f
number_at_lem vs x f d e h =
    ⊎_elim
    (λ (q : same x (get_or vs f []) ≡ true).
    q ∙ sym (eq-eqb (number_of x vs) f (ap (λ w. number_of w vs) (same_eq x (get_or vs f []) q) ∙ d f h)))
    (λ (q : same x (get_or vs f []) ≡ false).
    q
    ∙ sym (ne_eqb (number_of x vs) f (λ i.
    contrary (ap (same x) (ap (λ g. get_or vs g []) (sym i) ∙ number_finds x vs e) ∙ same_refl x) q)))
    (either (same x (get_or vs f [])))

distinct_with : (vs : List Word) (w : Word) → Distinct vs → Distinct (with_word vs w)
unfolding with_word
distinct_with vs w d =
    ⊎_elim
    (λ (q : is_in w vs ≡ true). rw q d)
    (λ (q : is_in w vs ≡ false). rw q (λ f h.
    ⊎_elim
    (λ (i : f ≡ length vs). rw (i, get_or_at vs w [] [] (length vs) refl) (number_last w vs q))
    (λ (l : f < length vs).
    ap (λ v. number_of v (vs ++ (w ∷ []))) (get_or-append vs (w ∷ []) [] f l)
    ∙ number_longer (get_or vs f []) vs (w ∷ []) (in_at vs f l)
    ∙ d f l)
    (last_or_below (let g = length-append vs (w ∷ []) in omega arith))))
    (either (is_in w vs))

stays_with : (x : Word) (vs : List Word) (w : Word) → is_in x vs ≡ true → is_in x (with_word vs w) ≡ true
unfolding with_word
stays_with x vs w e =
    ⊎_elim
    (λ (q : is_in w vs ≡ true). rw q e)
    (λ (q : is_in w vs ≡ false). rw q (in_longer x vs (w ∷ []) e))
    (either (is_in w vs))

module _ (k : Kind) where
  distinct_said : (vs : List Word) (s : Said) → Distinct vs → Distinct (with_said k vs s)
  unfolding with_said
  distinct_said vs (name r w) d =
      ⊎_elim
      (λ (q : same_kind (kind_of r) k ≡ true). rw q (distinct_with vs w d))
      (λ (q : same_kind (kind_of r) k ≡ false). rw q d)
      (either (same_kind (kind_of r) k))
  distinct_said vs (number n) d = d

  distinct_appearing : (is : List Item) (vs : List Word) → Distinct vs → Distinct (appearing k vs is)
  unfolding appearing
  distinct_appearing [] vs d = d
  distinct_appearing (i ∷ is) vs d = distinct_appearing is (with_said k vs i.said) (distinct_said vs i.said d)

  pub distinct_names : (is : List Item) → Distinct (appearing k [] is)
  distinct_names is = distinct_appearing is [] (λ f h. absurd (not-suc-le-zero h))

  stays_said : (x : Word) (vs : List Word) (s : Said) → is_in x vs ≡ true → is_in x (with_said k vs s) ≡ true
  unfolding with_said
  stays_said x vs (name r w) e =
      ⊎_elim
      (λ (q : same_kind (kind_of r) k ≡ true). rw q (stays_with x vs w e))
      (λ (q : same_kind (kind_of r) k ≡ false). rw q e)
      (either (same_kind (kind_of r) k))
  stays_said x vs (number n) e = e

  stays : (x : Word) (is : List Item) (vs : List Word) → is_in x vs ≡ true → is_in x (appearing k vs is) ≡ true
  unfolding appearing
  stays x [] vs e = e
  stays x (i ∷ is) vs e = stays x is (with_said k vs i.said) (stays_said x vs i.said e)

new_with : (x : Word) (vs : List Word) → is_in x (with_word vs x) ≡ true
unfolding with_word
new_with x vs =
    ⊎_elim
    (λ (q : is_in x vs ≡ true). rw q q)
    (λ (q : is_in x vs ≡ false). rw q (in_last x vs))
    (either (is_in x vs))

new_said : (r : Role) (x : Word) (vs : List Word) → is_in x (with_said (kind_of r) vs (name r x)) ≡ true
unfolding with_said same_kind
new_said r x vs = rw (eq-eqb (kind_number (kind_of r)) (kind_number (kind_of r)) refl) (new_with x vs)

abbrev is_number : Said → Bool
is_number (number n) = true
is_number (name r w) = false

-- each name that is said is among those of its kind
pub appears :
    (r : Role) (x : Word) (is : List Item) (vs : List Word) (j : ℕ) → (get_or is j nothing).said ≡ name r x
    → is_in x (appearing (kind_of r) vs is) ≡ true
unfolding appearing
appears r x [] vs j e = contrary refl (ap is_number e)
appears r x (i ∷ is) vs zero e =
    stays (kind_of r) x is (with_said (kind_of r) vs i.said) (rw e (new_said r x vs))
appears r x (i ∷ is) vs (suc j) e = appears r x is (with_said (kind_of r) vs i.said) j e
