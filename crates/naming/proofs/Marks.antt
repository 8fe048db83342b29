-- Whether a name has been given: its mark, one item on.
use Prim.Native.Nat.{ℕ, ◌+◌}
use mathlib.Core.Path.{◌≡◌, refl, sym, ap, ◌∙◌}
use mathlib.Core.Bool.{Bool, true, false, ◌||◌}
use mathlib.Core.List.{List}
use mathlib.Core.Logic.{⊎_elim}
use native.Mathlib.Numerals.{add-one}
use Rattle.laws.specs.Search.{any}
use Rattle.laws.proofs.Search.{either}
use Rattle.spelling.proofs.Same.{same_refl}
use Rattle.grammar.specs.Said.{Role, Said, name, number, Item}
use Rattle.grammar.specs.Tree.{Word}
use Rattle.supplied.specs.Names.{gives}
use Rattle.naming.specs.Index.{said_at, says}
use Rattle.naming.specs.Passed.{gives_name}
use Rattle.naming.proofs.Firsts.{says_name}

any_more : (p : ℕ → Bool) (k : ℕ) → any (k + 1) p ≡ (any k p || p k)
unfolding any
any_more p k = rw (add-one k) refl

or_none : (a : Bool) → (a || false) ≡ a
or_none true = refl
or_none false = refl

gives_own_lem : {s : Said} {r : Role} (w : Word) → s ≡ name r w → gives_name w s ≡ gives r
unfolding gives_name
gives_own_lem w e = ap (gives_name w) e ∙ rw (same_refl w) refl

pub gives_unsaid : (w : Word) (s : Said) → says w s ≡ false → gives_name w s ≡ false
unfolding gives_name says
gives_unsaid w (name r u) f = rw f refl
gives_unsaid w (number n) f = refl

module _ (is : List Item) (k : ℕ) where
  -- what was marked, where this item gives another name
  pub unmarked :
      (u : Word) → says u (said_at is k) ≡ false
      → any k (λ i. gives_name u (said_at is i)) ≡ any (k + 1) (λ i. gives_name u (said_at is i))
  unmarked u f =
      sym
      (any_more (λ i. gives_name u (said_at is i)) k
      ∙ ap (λ b. any k (λ i. gives_name u (said_at is i)) || b) (gives_unsaid u (said_at is k) f)
      ∙ or_none (any k (λ i. gives_name u (said_at is i))))

  module _ {r : Role} {w : Word} (e : said_at is k ≡ name r w) where
    -- a mark, where this item has its name
    pub marks_own :
        (mark : Bool) → mark ≡ any k (λ i. gives_name w (said_at is i))
        → (mark || gives r) ≡ any (k + 1) (λ i. gives_name w (said_at is i))
    marks_own mark q =
        ap (λ b. b || gives r) q
        ∙ sym
        (any_more (λ i. gives_name w (said_at is i)) k
        ∙ ap (λ b. any k (λ i. gives_name w (said_at is i)) || b) (gives_own_lem w e))

    -- another word is not said here
    pub else_unsaid : (u : Word) → (u ≡ w → ⊥) → says u (said_at is k) ≡ false
    else_unsaid u ne =
        ⊎_elim
        (λ (t : says u (said_at is k) ≡ true).
        let p = (says_name (said_at is k) t).1 in
        absurd (ne (let z : u ≡ w = cc in z)))
        (λ (f : says u (said_at is k) ≡ false). f)
        (either (says u (said_at is k)))
