-- The word at a cursor, read as a number.
use Prim.Native.Nat.{ℕ}
use mathlib.Core.Path.{◌≡◌, refl, sym, ◌∙◌}
use mathlib.Core.Bool.{Bool, true, false, not}
use mathlib.Core.List.{List}
use lib.Seq.{slice}
use borrow.Author.Tests.{not-true}
use Rattle.laws.proofs.Search.{contrary}
use Rattle.spelling.specs.Tokens.{Token, mark, word, stop}
use Rattle.spelling.specs.Numbers.{whole_of, time_of}
use Rattle.spelling.specs.Cursor.{here, is_such, whole_at, time_at}
use Rattle.spelling.specs.declared.Cursor.{Cursor}
use Rattle.std.specs.Prelude.{Option, None}
use Rattle.spelling.proofs.Standing.{some, there}

-- what is no word is no number
whole_none : (t : Token) → some t ≡ false → None ≡ whole_at t
unfolding is_such whole_at
whole_none (mark m) e = refl
whole_none (word w) e = contrary refl e
whole_none stop e = refl

time_none : (t : Token) → some t ≡ false → None ≡ time_at t
unfolding is_such time_at
time_none (mark m) e = refl
time_none (word w) e = contrary refl e
time_none stop e = refl

module _ (plan : Bool) (text : List ℕ) (c : Cursor) where
  pub whole_is : {r : Bool} → r ≡ some (here plan text c) → not r ≡ true → None ≡ whole_at (here plan text c)
  whole_is e f = whole_none (here plan text c) (sym e ∙ not-true _ f)

  pub time_is : {r : Bool} → r ≡ some (here plan text c) → not r ≡ true → None ≡ time_at (here plan text c)
  time_is e f = time_none (here plan text c) (sym e ∙ not-true _ f)

  -- a word there is told from its bytes
  module _ {r : Bool} (e : r ≡ some (here plan text c)) (f : not r ≡ false) where
    pub whole_word : {s : Option ℕ} → s ≡ whole_of (slice c.at c.end text) → s ≡ whole_at (here plan text c)
    unfolding whole_at
    whole_word g = rw ((there plan text c e f).1, whole_at) g

    pub time_word : {s : Option ℕ} → s ≡ time_of (slice c.at c.end text) → s ≡ time_at (here plan text c)
    unfolding time_at
    time_word g = rw ((there plan text c e f).1, time_at) g
