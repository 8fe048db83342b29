-- Tests of the token at a reader: what they say of the step, and that a token which passes one is not the text's end.
use Prim.Native.Nat.{ℕ, ◌≤◌, ◌<◌}
use mathlib.Core.Path.{◌≡◌, refl, sym, ap, ◌∙◌}
use mathlib.Core.Bool.{Bool, true, false}
use mathlib.Core.List.{List, []}
use native.Mathlib.Omega.{arith}
use native.Mathlib.Decide.{dec_lt}
use lib.ListN.{length}
use borrow.Author.Tests.{le-ltb}
use Rattle.laws.proofs.Search.{contrary}
use Rattle.spelling.specs.Tokens.{Token, stop}
use Rattle.spelling.specs.Cursor.{here, is_bracket, is_such, is_word}
use Rattle.spelling.specs.declared.Cursor.{Cursor}
use Rattle.grammar.specs.Allowed.{depth_most}
use Rattle.grammar.specs.Reader.{bracket, keyword, goes, fails, step}

module _ (plan : Bool) (text : List ℕ) (c : Cursor) where
  here_stop : length text ≤ c.at → here plan text c ≡ stop
  unfolding here
  here_stop h = rw (le-ltb _ _ h)

  -- what does not hold of the end holds of no token there
  not_end : (f : Token → Bool) → f stop ≡ false → f (here plan text c) ≡ true → c.at < length text
  not_end f z e =
      elim (dec_lt c.at (length text)) [
        | yes h ↦ h
        | no h ↦ let k : length text ≤ c.at = omega arith in contrary e (ap f (here_stop k) ∙ z)
      ]

  pub bracket_inside : (b : ℕ) {y : Bool} → y ≡ is_bracket b (here plan text c) → y ≡ true → c.at < length text
  unfolding is_bracket
  bracket_inside b e f = not_end (is_bracket b) refl (sym e ∙ f)

  pub such_inside : (p : List ℕ → Bool) → is_such p (here plan text c) ≡ true → c.at < length text
  unfolding is_such
  such_inside p e = not_end (is_such p) refl e

  pub word_inside : (w : List ℕ) {y : Bool} → y ≡ is_word w (here plan text c) → y ≡ true → c.at < length text
  word_inside w e f = such_inside _ (sym e ∙ f)

-- the steps of brackets and words
module _ (t : Token) where
  pub bracket_yes : (b : ℕ) {y : Bool} → y ≡ is_bracket b t → y ≡ true → step depth_most (bracket b) t ≡ goes [] []
  unfolding step
  bracket_yes b e f = rw (sym e ∙ f)

  pub bracket_no : (b : ℕ) {y : Bool} → y ≡ is_bracket b t → y ≡ false → step depth_most (bracket b) t ≡ fails 18
  unfolding step
  bracket_no b e f = rw (sym e ∙ f)

  pub word_yes : (w : List ℕ) {y : Bool} → y ≡ is_word w t → y ≡ true → step depth_most (keyword w) t ≡ goes [] []
  unfolding step
  word_yes w e f = rw (sym e ∙ f)

  pub word_no : (w : List ℕ) {y : Bool} → y ≡ is_word w t → y ≡ false → step depth_most (keyword w) t ≡ fails 18
  unfolding step
  word_no w e f = rw (sym e ∙ f)
