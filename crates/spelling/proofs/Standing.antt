-- The token at a cursor, told from the bytes.
use Prim.Native.Nat.{ℕ, ◌≤◌, ◌<◌}
use mathlib.Core.Path.{◌≡◌, refl, sym, ◌∙◌}
use mathlib.Core.Bool.{Bool, true, false, not, ◌&&◌}
use mathlib.Core.List.{List}
use native.Mathlib.Omega.{arith}
use native.Mathlib.Decide.{dec_lt}
use lib.Dec.{eqb}
use lib.ListN.{length, get_or}
use lib.Seq.{slice}
use borrow.Author.Tests.{lt-ltb, le-ltb, eq-eqb, ne_eqb, not-false}
use Rattle.laws.proofs.Search.{contrary}
use Rattle.spelling.specs.Tokens.{Token, mark, word, stop, is_mark}
use Rattle.spelling.specs.Cursor.{here, Standing, is_bracket, is_such, is_stop}
use Rattle.spelling.specs.declared.Cursor.{Cursor}

-- a word of any kind
abbrev pub some : Token → Bool
some t = is_such (λ w. true) t

module _ (plan : Bool) (text : List ℕ) (c : Cursor) where
  here_stop : length text ≤ c.at → here plan text c ≡ stop
  unfolding here
  here_stop h = rw (le-ltb _ _ h)

  here_mark : c.at < length text → is_mark plan (get_or text c.at 0) ≡ true → here plan text c ≡ mark (get_or text c.at 0)
  unfolding here
  here_mark h e = rw (lt-ltb _ _ h, e)

  here_word : c.at < length text → is_mark plan (get_or text c.at 0) ≡ false → here plan text c ≡ word (slice c.at c.end text)
  unfolding here
  here_word h e = rw (lt-ltb _ _ h, e)

  -- at the text's end and before it
  pub stop_is : Standing plan text c → eqb c.at (length text) ≡ is_stop (here plan text c)
  unfolding is_stop
  stop_is s =
      elim (dec_lt c.at (length text)) [
        | yes h ↦ rw (ne_eqb c.at (length text) (λ e. omega arith)) (go (is_mark plan (get_or text c.at 0)) refl h)
        | no h ↦
            let e : c.at ≡ length text = omega (arith, s.within, s.onward) in
            rw (eq-eqb _ _ e, here_stop (omega arith), is_stop)
      ]
    where
      go : (m : Bool) → is_mark plan (get_or text c.at 0) ≡ m → c.at < length text → false ≡ is_stop (here plan text c)
      go true e h = rw (here_mark h e, is_stop)
      go false e h = rw (here_word h e, is_stop)

  pub inside : Standing plan text c → (c.at ≡ length text → ⊥) → c.at < length text
  inside s f = omega (arith, s.within, s.onward)

  pub bracket_end : (b : ℕ) → c.at ≡ length text → false ≡ is_bracket b (here plan text c)
  unfolding is_bracket
  bracket_end b e = let h : length text ≤ c.at = omega arith in rw (here_stop h, is_bracket)

  pub bracket_is :
      (b : ℕ) {m : Bool} → c.at < length text → m ≡ is_mark plan (get_or text c.at 0) →
      (m && eqb (get_or text c.at 0) b) ≡ is_bracket b (here plan text c)
  unfolding is_bracket
  bracket_is b {m = true} h e = rw (here_mark h (sym e), is_bracket)
  bracket_is b {m = false} h e = rw (here_word h (sym e), is_bracket)

  pub some_end : c.at ≡ length text → false ≡ some (here plan text c)
  unfolding is_such
  some_end e = let h : length text ≤ c.at = omega arith in rw (here_stop h, is_such)

  pub some_is : {m : Bool} → c.at < length text → m ≡ is_mark plan (get_or text c.at 0) → not m ≡ some (here plan text c)
  unfolding is_such
  some_is {m = true} h e = rw (here_mark h (sym e), is_such)
  some_is {m = false} h e = rw (here_word h (sym e), is_such)

  -- a word at the cursor is its bytes
  pub word_here : some (here plan text c) ≡ true → (c.at < length text) × (here plan text c ≡ word (slice c.at c.end text))
  unfolding is_such
  word_here e =
      elim (dec_lt c.at (length text)) [
        | yes h ↦ go (is_mark plan (get_or text c.at 0)) refl h
        | no h ↦ let l : length text ≤ c.at = omega arith in contrary e (rw (here_stop l, is_such))
      ]
    where
      go :
          (m : Bool) → is_mark plan (get_or text c.at 0) ≡ m → c.at < length text →
          (c.at < length text) × (here plan text c ≡ word (slice c.at c.end text))
      go true f h = contrary e (rw (here_mark h f, is_such))
      go false f h = (h, here_word h f)

  -- a word there is told from its bytes
  module _ {r : Bool} (e : r ≡ some (here plan text c)) (f : not r ≡ false) where
    pub there : (c.at < length text) × (here plan text c ≡ word (slice c.at c.end text))
    there = word_here (sym e ∙ not-false _ f)
