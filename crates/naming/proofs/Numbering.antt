-- The names of a kind that have appeared, one item on, and the number of a name among them.
use Prim.Native.Nat.{ℕ, zero, suc, ◌+◌, ◌≤◌, ◌<◌}
use mathlib.Core.Path.{◌≡◌, refl, sym, ap, subst, ◌∙◌}
use mathlib.Core.Bool.{true, false, cond, ◌||◌, or-true}
use mathlib.Core.List.{List, [], ◌∷◌, ◌++◌}
use mathlib.Core.Logic.{⊎_elim}
use native.Mathlib.Nat.{not-suc-le-zero}
use native.Mathlib.Numerals.{add-one}
use native.Mathlib.Omega.{arith}
use borrow.Author.Tests.{eqb-true, eq-eqb}
use lib.ListN.{length, get_or, take, length-append}
use lib.Seq.{take-suc}
use Rattle.laws.proofs.Search.{either, contrary, or_both, or_out, last_or_below}
use Rattle.spelling.specs.Keywords.{same}
use Rattle.spelling.proofs.Same.{same_refl}
use Rattle.grammar.specs.Said.{Role, Said, name, number, Item}
use Rattle.grammar.specs.Tree.{Word}
use Rattle.notes.specs.Notes.{nothing}
use Rattle.supplied.specs.Names.{Kind, kind_of, kind_number, same_kind}
use Rattle.supplied.specs.Names.{is_in, with_word, with_said, appearing, names_of, number_of}
use Rattle.naming.specs.Index.{said_at, says}
use Rattle.naming.proofs.Roles.{number_kind}

pub kind_refl : (κ : Kind) → same_kind κ κ ≡ true
unfolding same_kind
kind_refl κ = eq-eqb (kind_number κ) (kind_number κ) refl

pub kind_eq : (a b : Kind) → same_kind a b ≡ true → a ≡ b
unfolding same_kind
kind_eq a b e = number_kind a b (eqb-true _ _ e)

-- a word among others, one of which is new
module _ (w : Word) where
  in_more : (vs us : List Word) → is_in w vs ≡ true → is_in w (vs ++ us) ≡ true
  unfolding is_in
  in_more [] us e = contrary e refl
  in_more (v ∷ vs) us e =
      ⊎_elim
      (λ (t : same v w ≡ true). ap (λ b. b || is_in w (vs ++ us)) t)
      (λ (t : is_in w vs ≡ true). ap (λ b. same v w || b) (in_more vs us t) ∙ or-true (same v w))
      (or_out (same v w) (is_in w vs) e)

  in_last : (vs : List Word) → is_in w (vs ++ (w ∷ [])) ≡ true
  unfolding is_in
  in_last [] = ap (λ b. b || false) (same_refl w)
  in_last (v ∷ vs) = ap (λ b. same v w || b) (in_last vs) ∙ or-true (same v w)

  not_in_last : (vs : List Word) (u : Word) → is_in w vs ≡ false → same u w ≡ false → is_in w (vs ++ (u ∷ [])) ≡ false
  unfolding is_in
  not_in_last [] u e f = ap (λ b. b || false) f
  not_in_last (v ∷ vs) u e f =
      let p = or_both (same v w) (is_in w vs) e in
      ap (λ b. b || is_in w (vs ++ (u ∷ []))) p.0 ∙ not_in_last vs u p.1 f

  number_more : (vs us : List Word) → is_in w vs ≡ true → number_of w (vs ++ us) ≡ number_of w vs
  unfolding is_in number_of
  number_more [] us e = contrary e refl
  number_more (v ∷ vs) us e =
      ⊎_elim
      (λ (t : same v w ≡ true). rw t refl)
      (λ (f : same v w ≡ false). rw f (ap suc (number_more vs us (sym (ap (λ b. b || is_in w vs) f) ∙ e))))
      (either (same v w))

  pub number_new : (vs : List Word) → is_in w vs ≡ false → number_of w (vs ++ (w ∷ [])) ≡ length vs
  unfolding is_in number_of
  number_new [] e = rw (same_refl w) refl
  number_new (v ∷ vs) e =
      let p = or_both (same v w) (is_in w vs) e in
      rw p.0 (ap suc (number_new vs p.1))

  with_in : (vs : List Word) (u : Word) → is_in w vs ≡ true → is_in w (with_word vs u) ≡ true
  unfolding with_word
  with_in vs u e =
      ⊎_elim (λ (t : is_in u vs ≡ true). rw t e) (λ (f : is_in u vs ≡ false). rw f (in_more vs (u ∷ []) e)) (either (is_in u vs))

  with_own : (vs : List Word) → is_in w (with_word vs w) ≡ true
  unfolding with_word
  with_own vs =
      ⊎_elim (λ (t : is_in w vs ≡ true). rw t t) (λ (f : is_in w vs ≡ false). rw f (in_last vs)) (either (is_in w vs))

  with_number : (vs : List Word) (u : Word) → is_in w vs ≡ true → number_of w (with_word vs u) ≡ number_of w vs
  unfolding with_word
  with_number vs u e =
      ⊎_elim (λ (t : is_in u vs ≡ true). rw t refl) (λ (f : is_in u vs ≡ false). rw f (number_more vs (u ∷ []) e)) (either (is_in u vs))

  said_keeps : (κ : Kind) (vs : List Word) (s : Said) → is_in w vs ≡ true → is_in w (with_said κ vs s) ≡ true
  unfolding with_said
  said_keeps κ vs (number n) e = e
  said_keeps κ vs (name r u) e =
      ⊎_elim
      (λ (t : same_kind (kind_of r) κ ≡ true). rw t (with_in vs u e))
      (λ (f : same_kind (kind_of r) κ ≡ false). rw f e)
      (either (same_kind (kind_of r) κ))

  said_number : (κ : Kind) (vs : List Word) (s : Said) → is_in w vs ≡ true → number_of w (with_said κ vs s) ≡ number_of w vs
  unfolding with_said
  said_number κ vs (number n) e = refl
  said_number κ vs (name r u) e =
      ⊎_elim
      (λ (t : same_kind (kind_of r) κ ≡ true). rw t (with_number vs u e))
      (λ (f : same_kind (kind_of r) κ ≡ false). rw f refl)
      (either (same_kind (kind_of r) κ))

  said_not : (κ : Kind) (vs : List Word) (s : Said) → is_in w vs ≡ false → says w s ≡ false → is_in w (with_said κ vs s) ≡ false
  unfolding with_said with_word says
  said_not κ vs (number n) e g = e
  said_not κ vs (name r u) e g =
      ⊎_elim
      (λ (t : same_kind (kind_of r) κ ≡ true).
      rw t
      (⊎_elim (λ (h : is_in u vs ≡ true). rw h e) (λ (h : is_in u vs ≡ false). rw h (not_in_last vs u e g)) (either (is_in u vs))))
      (λ (f : same_kind (kind_of r) κ ≡ false). rw f e)
      (either (same_kind (kind_of r) κ))

said_few : (κ : Kind) (vs : List Word) (s : Said) → length (with_said κ vs s) ≤ length vs + 1
unfolding with_said with_word
said_few κ vs (number n) = omega arith
said_few κ vs (name r u) =
    ⊎_elim
    (λ (t : same_kind (kind_of r) κ ≡ true).
    rw t
    (⊎_elim
    (λ (h : is_in u vs ≡ true). rw h (omega arith))
    (λ (h : is_in u vs ≡ false). rw h (omega (arith, length-append vs (u ∷ []))))
    (either (is_in u vs))))
    (λ (f : same_kind (kind_of r) κ ≡ false). rw f (omega arith))
    (either (same_kind (kind_of r) κ))

appearing_last : (κ : Kind) (vs : List Word) (is : List Item) (i : Item) → appearing κ vs (is ++ (i ∷ [])) ≡ with_said κ (appearing κ vs is) i.said
unfolding appearing
appearing_last κ vs [] i = refl
appearing_last κ vs (j ∷ is) i = appearing_last κ (with_said κ vs j.said) is i

module _ (is : List Item) where
  -- the names that have appeared before item k
  abbrev pub names_to : Kind → ℕ → List Word
  names_to κ k = names_of κ (take k is)

  names_more : (κ : Kind) (k : ℕ) → k < length is → names_to κ (k + 1) ≡ with_said κ (names_to κ k) (said_at is k)
  names_more κ k l =
      rw (add-one k, take-suc is k nothing l) (appearing_last κ [] (take k is) (get_or is k nothing))

  names_suc : (κ : Kind) (k : ℕ) → suc k ≤ length is → names_to κ (suc k) ≡ with_said κ (names_to κ k) (said_at is k)
  names_suc κ k l = sym (ap (names_to κ) (add-one k)) ∙ names_more κ k (omega arith)

  -- a name that has been said is among those of its kind, and keeps its number
  said_in_lem : (k j : ℕ) {r : Role} {w : Word} → k ≤ length is → j < k → said_at is j ≡ name r w → is_in w (names_to (kind_of r) k) ≡ true
  unfolding with_said
  said_in_lem zero j h l e = absurd (not-suc-le-zero l)
  said_in_lem (suc k) j {r} {w} h l e =
      ap (is_in w) (names_suc (kind_of r) k h)
      ∙ ⊎_elim
      (λ (q : j ≡ k).
      ap (λ s. is_in w (with_said (kind_of r) (names_to (kind_of r) k) s)) (ap (said_at is) (sym q) ∙ e)
      ∙ rw (kind_refl (kind_of r)) (with_own w (names_to (kind_of r) k)))
      (λ (g : j < k). said_keeps w (kind_of r) (names_to (kind_of r) k) (said_at is k) (said_in_lem k j (omega arith) g e))
      (last_or_below l)

  pub keeps_number :
      (k j : ℕ) {r : Role} {w : Word} → k < length is → j < k → said_at is j ≡ name r w
      → number_of w (names_to (kind_of r) (k + 1)) ≡ number_of w (names_to (kind_of r) k)
  keeps_number k j {r} {w} h l e =
      ap (number_of w) (names_more (kind_of r) k h)
      ∙ said_number w (kind_of r) (names_to (kind_of r) k) (said_at is k) (said_in_lem k j (omega arith) l e)

  -- one that nobody has said is not
  pub not_in : (w : Word) (κ : Kind) (k : ℕ) → k ≤ length is → ((j : ℕ) → j < k → says w (said_at is j) ≡ false) → is_in w (names_to κ k) ≡ false
  unfolding is_in appearing
  not_in w κ zero h none = refl
  not_in w κ (suc k) h none =
      ap (is_in w) (names_suc κ k h)
      ∙ said_not w κ (names_to κ k) (said_at is k) (not_in w κ k (omega arith) (λ j l. none j (omega arith))) (none k (omega arith))

  pub names_few : (κ : Kind) (k : ℕ) → k ≤ length is → length (names_to κ k) ≤ k
  unfolding appearing
  names_few κ zero h = omega arith
  names_few κ (suc k) h = rw (names_suc κ k h) (omega (arith, said_few κ (names_to κ k) (said_at is k), names_few κ k (omega arith)))

  -- what an item does to the names of a kind: a number nothing, a name of another kind nothing, a new name comes last, another nothing
  module _ (k : ℕ) (h : k < length is) where
    pub number_leaves : (κ : Kind) {n : ℕ} → said_at is k ≡ number n → names_to κ (k + 1) ≡ names_to κ k
    unfolding with_said
    number_leaves κ e = names_more κ k h ∙ ap (with_said κ (names_to κ k)) e

    module _ {r : Role} {w : Word} (e : said_at is k ≡ name r w) where
      said_so : (κ : Kind) → names_to κ (k + 1) ≡ cond (same_kind (kind_of r) κ) (with_word (names_to κ k) w) (names_to κ k)
      unfolding with_said
      said_so κ = names_more κ k h ∙ ap (with_said κ (names_to κ k)) e

      pub other_leaves : (κ : Kind) → (kind_of r ≡ κ → ⊥) → names_to κ (k + 1) ≡ names_to κ k
      other_leaves κ ne =
          said_so κ
          ∙ ⊎_elim
          (λ (t : same_kind (kind_of r) κ ≡ true). absurd (ne (kind_eq _ _ t)))
          (λ (f : same_kind (kind_of r) κ ≡ false). rw f refl)
          (either (same_kind (kind_of r) κ))

      pub new_comes : ((j : ℕ) → j < k → says w (said_at is j) ≡ false) → names_to (kind_of r) (k + 1) ≡ names_to (kind_of r) k ++ (w ∷ [])
      unfolding with_word
      new_comes none = said_so (kind_of r) ∙ rw (kind_refl (kind_of r), not_in w (kind_of r) k (omega arith) none) refl

      pub again_leaves :
          (j : ℕ) {q : Role} → j < k → said_at is j ≡ name q w → kind_of q ≡ kind_of r → names_to (kind_of r) (k + 1) ≡ names_to (kind_of r) k
      unfolding with_word
      again_leaves j l p g =
          said_so (kind_of r)
          ∙ rw (kind_refl (kind_of r), subst (λ κ. is_in w (names_to κ k) ≡ true) g (said_in_lem k j (omega arith) l p)) refl
