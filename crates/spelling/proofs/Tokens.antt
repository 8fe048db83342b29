-- How the tokens of a text begin: a blank is passed over, a bracket is a token, a longest run is a word.
use Prim.Native.Nat.{ℕ, suc, ◌+◌, ◌-◌, ◌≤◌, ◌<◌}
use mathlib.Core.Path.{◌≡◌, sym, ap, ◌∙◌}
use mathlib.Core.Bool.{Bool, true, false, ◌||◌}
use mathlib.Core.List.{List, [], ◌∷◌, ◌++◌}
use native.Mathlib.Omega.{arith}
use native.Mathlib.Numerals.{add-one}
use native.Mathlib.Decide.{dec_lt}
use borrow.Author.Tests.{not-true}
use lib.Dec.{eqb}
use lib.ListN.{length, get_or, take, drop, take-append-drop, drop_of_length-le}
use lib.Seq.{drop-cons, drop-length, drop-append-le, get_or-drop, get_or-take, length-take-le, slice, slice-cons, length-slice}
use Rattle.laws.proofs.Search.{or_both}
use Rattle.spelling.specs.Tokens.{mark, word, stop, placed, is_blank, is_mark, in_word, line_after, joins, grown, with_byte, tokens}

module _ (plan : Bool) (b : ℕ) where
  -- a byte of a word is no blank and no bracket
  pub word_blank : in_word plan b ≡ true → is_blank plan b ≡ false
  unfolding in_word
  word_blank e = (or_both _ _ (not-true _ e)).0

  pub word_mark : in_word plan b ≡ true → is_mark plan b ≡ false
  unfolding in_word
  word_mark e = (or_both (is_blank plan b) _ (not-true _ e)).1

  -- a byte that is neither is one
  pub word_else : is_blank plan b ≡ false → is_mark plan b ≡ false → in_word plan b ≡ true
  unfolding in_word
  word_else e f = rw (e, f)

-- byte 10 is a blank, or in a plan like a bracket
ends_none : (plan : Bool) (b : ℕ) → is_blank plan b ≡ false → is_mark plan b ≡ false → eqb b 10 ≡ false
unfolding is_blank is_mark
ends_none true b e f =
    (or_both (eqb b 58) (eqb b 10) (or_both (((eqb b 40 || eqb b 41) || eqb b 91) || eqb b 93) (eqb b 58 || eqb b 10) f).1).1
ends_none false b e f = (or_both (eqb b 32 || eqb b 9) (eqb b 10) e).1

-- so a word ends no line
pub word_line : (plan : Bool) (b l : ℕ) → in_word plan b ≡ true → line_after b l ≡ l
unfolding line_after
word_line plan b l e = rw (ends_none plan b (word_blank plan b e) (word_mark plan b e))

module _ (plan : Bool) (b l : ℕ) (bs : List ℕ) where
  pub tokens_blank : is_blank plan b ≡ true → tokens plan l (b ∷ bs) ≡ tokens plan (line_after b l) bs
  unfolding tokens with_byte
  tokens_blank e = rw e

  pub tokens_mark :
      is_blank plan b ≡ false → is_mark plan b ≡ true → tokens plan l (b ∷ bs) ≡ placed (mark b) l ∷ tokens plan (line_after b l) bs
  unfolding tokens with_byte
  tokens_mark e f = rw (e, f)

  pub tokens_letter :
      in_word plan b ≡ true → joins plan bs ≡ false → tokens plan l (b ∷ bs) ≡ placed (word (b ∷ [])) l ∷ tokens plan l bs
  unfolding tokens with_byte
  tokens_letter e f = rw (word_blank plan b e, word_mark plan b e, f, word_line plan b l e)

  pub tokens_letters : in_word plan b ≡ true → joins plan bs ≡ true → tokens plan l (b ∷ bs) ≡ grown b (tokens plan l bs)
  unfolding tokens with_byte
  tokens_letters e f = rw (word_blank plan b e, word_mark plan b e, f, word_line plan b l e)

-- a word with nothing of a word behind it is one token
pub tokens_run :
    (plan : Bool) (l b : ℕ) (w rest : List ℕ) → in_word plan b ≡ true → ((k : ℕ) → k < length w → in_word plan (get_or w k 0) ≡ true) →
    joins plan rest ≡ false → tokens plan l (b ∷ w ++ rest) ≡ placed (word (b ∷ w)) l ∷ tokens plan l rest
unfolding joins grown
tokens_run plan l b [] rest e h f = tokens_letter plan b l rest e f
tokens_run plan l b (a ∷ w) rest e h f =
    tokens_letters plan b l (a ∷ w ++ rest) e (h 0 (omega arith))
    ∙ ap (grown b) (tokens_run plan l a w rest (h 0 (omega arith)) (λ k lt. h (suc k) (omega arith)) f)

-- the same at a place of a text
module _ (plan : Bool) (s : List ℕ) (l : ℕ) where
  pub at_end : (i : ℕ) → length s ≤ i → i ≤ length s → tokens plan l (drop i s) ≡ placed stop l ∷ []
  unfolding tokens
  at_end i h k = let e : i ≡ length s = omega arith in rw (e, drop-length s)

  pub at_blank :
      (i : ℕ) → i < length s → is_blank plan (get_or s i 0) ≡ true →
      tokens plan l (drop i s) ≡ tokens plan (line_after (get_or s i 0) l) (drop (i + 1) s)
  at_blank i h e = rw (drop-cons s i 0 h, add-one i) (tokens_blank plan _ l _ e)

  pub at_mark :
      (i : ℕ) → i < length s → is_blank plan (get_or s i 0) ≡ false → is_mark plan (get_or s i 0) ≡ true →
      tokens plan l (drop i s) ≡ placed (mark (get_or s i 0)) l ∷ tokens plan (line_after (get_or s i 0) l) (drop (i + 1) s)
  at_mark i h e f = rw (drop-cons s i 0 h, add-one i) (tokens_mark plan _ l _ e f)

  part_drop : (i e : ℕ) → i ≤ e → e ≤ length s → drop i s ≡ slice i e s ++ drop e s
  part_drop i e h k =
      sym (ap (drop i) (take-append-drop e s)) ∙ drop-append-le i (take e s) (drop e s) (rw (length-take-le e s k) h)

  -- nothing of a word goes on where a run ends
  none_joins : (e : ℕ) → (e < length s → in_word plan (get_or s e 0) ≡ false) → joins plan (drop e s) ≡ false
  unfolding joins
  none_joins e h =
      elim (dec_lt e (length s)) [
        | yes lt ↦ rw (drop-cons s e 0 lt) (h lt)
        | no ge ↦ rw (drop_of_length-le s {i = e} (omega arith))
      ]

  pub at_word_lem :
      (i e : ℕ) → i < e → e ≤ length s → ((k : ℕ) → i ≤ k → k < e → in_word plan (get_or s k 0) ≡ true) →
      (e < length s → in_word plan (get_or s e 0) ≡ false) →
      tokens plan l (drop i s) ≡ placed (word (slice i e s)) l ∷ tokens plan l (drop e s)
  at_word_lem i e h k each stops =
      rw (part_drop i e (omega arith) k, slice-cons i e s 0 h k)
      (tokens_run plan l (get_or s i 0) (slice (suc i) e s) (drop e s) (each i (omega arith) h)
      (λ j lt.
      let b : j < e - suc i = rw (length-slice (suc i) e s k) at lt in
      let c : suc i + j < e = omega arith in
      rw (get_or-drop (suc i) (take e s) j 0, get_or-take e s (suc i + j) 0 c) (each (suc i + j) (omega arith) (omega arith)))
      (none_joins e stops))
