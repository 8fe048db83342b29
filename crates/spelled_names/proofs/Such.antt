-- The word at a cursor, tested by its bytes.
use Prim.Native.Nat.{ℕ, ◌<◌}
use mathlib.Core.Path.{◌≡◌, refl, sym, ◌∙◌}
use mathlib.Core.Bool.{Bool, true, false, not, ◌&&◌}
use mathlib.Core.List.{List}
use lib.Seq.{slice}
use borrow.Author.Tests.{not-true}
use Rattle.laws.proofs.Search.{contrary}
use Rattle.spelling.specs.Tokens.{Token, mark, word, stop}
use Rattle.spelling.specs.Cursor.{here, Standing, is_such}
use Rattle.spelling.specs.declared.Cursor.{Cursor}
use Rattle.spelling.proofs.Standing.{some, word_here, there}

-- what is no word is no such word
such_none : (p : List ℕ → Bool) (t : Token) → some t ≡ false → false ≡ is_such p t
unfolding is_such
such_none p (mark m) e = refl
such_none p (word w) e = contrary refl e
such_none p stop e = refl

module _ (plan : Bool) (text : List ℕ) (c : Cursor) where
  pub such_is :
      (p : List ℕ → Bool) {r y : Bool} → r ≡ some (here plan text c) → y ≡ p (slice c.at c.end text) →
      (r && y) ≡ is_such p (here plan text c)
  unfolding is_such
  such_is p {r = true} {y} e f = f ∙ sym (rw ((word_here plan text c (sym e)).1, is_such))
  such_is p {r = false} {y} e f = such_none p (here plan text c) (sym e)

  pub such_not : (p : List ℕ → Bool) {r : Bool} → r ≡ some (here plan text c) → not r ≡ true → false ≡ is_such p (here plan text c)
  such_not p e f = such_none p (here plan text c) (sym e ∙ not-true _ f)

  -- a word there is told from its bytes
  module _ {r : Bool} (e : r ≡ some (here plan text c)) (f : not r ≡ false) where
    pub longer : Standing plan text c → c.at < c.end
    longer s = s.grows (there plan text c e f).0

    pub such_word : (p : List ℕ → Bool) {y : Bool} → y ≡ p (slice c.at c.end text) → y ≡ is_such p (here plan text c)
    unfolding is_such
    such_word p g = rw ((there plan text c e f).1, is_such) g
