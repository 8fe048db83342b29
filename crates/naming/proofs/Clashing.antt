-- What may stand behind what, and how far items have been passed.
use Prim.Native.Nat.{ℕ, zero, suc, ◌+◌, ◌≤◌, ◌<◌}
use mathlib.Core.Path.{◌≡◌, refl, sym, ap, ◌∙◌}
use mathlib.Core.Bool.{Bool, true, false, not, ◌||◌, ◌&&◌, and-false}
use mathlib.Core.List.{List, [], ◌∷◌, ◌++◌}
use mathlib.Core.Logic.{⊎_elim}
use native.Mathlib.Numerals.{add-one}
use native.Mathlib.Omega.{arith}
use lib.ListN.{length, get_or, take, drop, drop_of_length-le}
use lib.Seq.{take-suc, drop-cons}
use Rattle.laws.specs.Search.{any}
use Rattle.laws.proofs.Search.{either, contrary, and_both, any_intro, any_none, any_false, any_elim}
use Rattle.spelling.specs.Keywords.{same}
use Rattle.spelling.proofs.Same.{same_refl}
use Rattle.grammar.specs.Said.{Role, Said, name, number, Item}
use Rattle.grammar.specs.Tree.{Word}
use Rattle.grammar.specs.Reader.{Outcome, refused}
use Rattle.notes.specs.Notes.{nothing}
use Rattle.supplied.specs.Names.{kind_of, same_kind, gives, clash, clashes, names_from}
use Rattle.naming.specs.Index.{said_at, says}
use Rattle.naming.specs.Passed.{gives_name}
use Rattle.naming.proofs.Firsts.{says_name}
use Rattle.naming.proofs.Numbering.{kind_refl, kind_eq}

or_assoc : (a b c : Bool) → (a || (b || c)) ≡ ((a || b) || c)
or_assoc true b c = refl
or_assoc false b c = refl

or_nil : (a : Bool) → (a || false) ≡ (false || a)
or_nil true = refl
or_nil false = refl

clashes_last : (is : List Item) (j i : Item) → clashes (is ++ (j ∷ [])) i ≡ (clashes is i || clash j.said i.said)
unfolding clashes
clashes_last [] j i = or_nil (clash j.said i.said)
clashes_last (a ∷ is) j i =
    ap (λ b. clash a.said i.said || b) (clashes_last is j i)
    ∙ or_assoc (clash a.said i.said) (clashes is i) (clash j.said i.said)

-- two items of one name: of two kinds, both given, or neither
module _ {s : Said} {r : Role} {w : Word} (e : s ≡ name r w) where
  clash_kinds : (q : Role) → (kind_of q ≡ kind_of r → ⊥) → clash (name q w) s ≡ true
  unfolding clash
  clash_kinds q ne =
      ap (clash (name q w)) e
      ∙ rw (same_refl w)
      (⊎_elim
      (λ (t : same_kind (kind_of q) (kind_of r) ≡ true). absurd (ne (kind_eq _ _ t)))
      (λ (f : same_kind (kind_of q) (kind_of r) ≡ false). rw f refl)
      (either (same_kind (kind_of q) (kind_of r))))

  clash_given : (a : Said) → gives_name w a ≡ true → gives r ≡ true → clash a s ≡ true
  unfolding clash gives_name
  clash_given (number n) g h = contrary g refl
  clash_given (name q v) g h =
      let p = and_both (same v w) (gives q) g in
      ap (clash (name q v)) e
      ∙ rw (p.0, p.1, h) (last (same_kind (kind_of q) (kind_of r)))
    where
      last : (b : Bool) → (not b || true) ≡ true
      last true = refl
      last false = refl

  apart_other : (a : Said) → says w a ≡ false → clash a s ≡ false
  unfolding clash says
  apart_other (number n) f = refl
  apart_other (name q v) f = ap (clash (name q v)) e ∙ rw f refl

  apart_same : (q : Role) → kind_of q ≡ kind_of r → (gives r && gives_name w (name q w)) ≡ false → clash (name q w) s ≡ false
  unfolding clash gives_name
  apart_same q k g =
      ap (clash (name q w)) e
      ∙ rw (same_refl w, k, kind_refl (kind_of r)) (swap (gives r) (gives q) (rw (same_refl w) at g))
    where
      swap : (a b : Bool) → (a && b) ≡ false → (b && a) ≡ false
      swap true b f = ap (λ x. x && true) f
      swap false b f = and-false b

apart_number : {s : Said} {n : ℕ} (a : Said) → s ≡ number n → clash a s ≡ false
unfolding clash
apart_number (number m) e = refl
apart_number (name q v) e = ap (clash (name q v)) e

module _ (is : List Item) where
  clashes_any : (i : Item) (k : ℕ) → k ≤ length is → clashes (take k is) i ≡ any k (λ j. clash (said_at is j) i.said)
  unfolding clashes any
  clashes_any i zero h = refl
  clashes_any i (suc k) h =
      ap (λ l. clashes l i) (take-suc is k nothing h)
      ∙ clashes_last (take k is) (get_or is k nothing) i
      ∙ ap (λ b. b || clash (said_at is k) i.said) (clashes_any i k (omega arith))

  -- whether item k may stand behind those before it
  abbrev pub clashes_at : ℕ → Bool
  clashes_at k = clashes (take k is) (get_or is k nothing)

  module _ (k : ℕ) (h : k ≤ length is) where
    clashing : (j : ℕ) → j < k → clash (said_at is j) (said_at is k) ≡ true → clashes_at k ≡ true
    clashing j l t = clashes_any (get_or is k nothing) k h ∙ any_intro (λ i. clash (said_at is i) (said_at is k)) k j l t

    apart : ((j : ℕ) → j < k → clash (said_at is j) (said_at is k) ≡ false) → clashes_at k ≡ false
    apart f = clashes_any (get_or is k nothing) k h ∙ any_none (λ i. clash (said_at is i) (said_at is k)) k f

    pub passes_number : {n : ℕ} → said_at is k ≡ number n → clashes_at k ≡ false
    passes_number e = apart (λ j l. apart_number (said_at is j) e)

    module _ {r : Role} {w : Word} (e : said_at is k ≡ name r w) where
      pub passes_new : ((j : ℕ) → j < k → says w (said_at is j) ≡ false) → clashes_at k ≡ false
      passes_new none = apart (λ j l. apart_other e (said_at is j) (none j l))

      pub refused_kind : (j : ℕ) {q : Role} → j < k → said_at is j ≡ name q w → (kind_of q ≡ kind_of r → ⊥) → clashes_at k ≡ true
      refused_kind j {q} l p ne = clashing j l (ap (λ s. clash s (said_at is k)) p ∙ clash_kinds e q ne)

      pub refused_given : any k (λ i. gives_name w (said_at is i)) ≡ true → gives r ≡ true → clashes_at k ≡ true
      refused_given g t =
          let o = any_elim (λ i. gives_name w (said_at is i)) k g in
          clashing o.0 o.1 (clash_given e (said_at is o.0) o.2 t)

      pub passes_again :
          ((j : ℕ) (q : Role) → j < k → said_at is j ≡ name q w → kind_of q ≡ kind_of r)
          → (gives r && any k (λ i. gives_name w (said_at is i))) ≡ false → clashes_at k ≡ false
      passes_again kinds g =
          apart
          (λ j l.
          ⊎_elim
          (λ (t : says w (said_at is j) ≡ true).
          let p = says_name (said_at is j) t in
          ap (λ s. clash s (said_at is k)) p.1
          ∙ apart_same e p.0 (kinds j p.0 l p.1) (ap (λ s. gives r && gives_name w s) (sym p.1) ∙ each (gives r) g j l))
          (λ (f : says w (said_at is j) ≡ false). apart_other e (said_at is j) f)
          (either (says w (said_at is j))))
        where
          each :
              (a : Bool) → (a && any k (λ i. gives_name w (said_at is i))) ≡ false → (j : ℕ) → j < k
              → (a && gives_name w (said_at is j)) ≡ false
          each true f j l = any_false (λ i. gives_name w (said_at is i)) k f j l
          each false f j l = refl

  module _ (k : ℕ) (passed : (o : Outcome) → names_from [] is o ≡ names_from (take k is) (drop k is) o) where
    pub onward_more : k < length is → clashes_at k ≡ false → (o : Outcome) → names_from [] is o ≡ names_from (take (k + 1) is) (drop (k + 1) is) o
    unfolding names_from
    onward_more h f o =
        passed o
        ∙ ap (λ l. names_from (take k is) l o) (drop-cons is k nothing h)
        ∙ rw (f, add-one k, take-suc is k nothing h) refl

    pub onward_refused : k < length is → clashes_at k ≡ true → (o : Outcome) → names_from [] is o ≡ refused 18 (get_or is k nothing).line (take k is)
    unfolding names_from
    onward_refused h t o =
        passed o
        ∙ ap (λ l. names_from (take k is) l o) (drop-cons is k nothing h)
        ∙ rw t refl

    pub onward_end : length is ≤ k → (o : Outcome) → names_from [] is o ≡ o
    unfolding names_from
    onward_end h o = passed o ∙ ap (λ l. names_from (take k is) l o) (drop_of_length-le is h)
