-- Laws of a text's words: the bytes passed of a word, one more of them, the word's end, and whether it is a whole number.
use Prim.Native.Nat.{ℕ, ◌+◌, ◌≤◌, ◌<◌}
use mathlib.Core.Path.{◌≡◌, refl, sym, ap, subst, ◌∙◌}
use mathlib.Core.Bool.{true, false}
use mathlib.Core.List.{List, [], ◌∷◌, ◌++◌, append-nil, append_assoc}
use native.Mathlib.Numerals.{add-one}
use native.Mathlib.Decide.{dec_lt}
use native.Mathlib.Omega.{arith}
use borrow.Author.Tests.{eq-eqb, ne_eqb}
use lib.ListN.{length, get_or, drop, drop_of_length-le}
use lib.Seq.{slice, slice_empty, drop-cons}
use Rattle.std.specs.Prelude.{Option, Some, None}
use Rattle.spelling.specs.Numbers.{is_whole, spelled, digits_of, whole_of, whole_most}
use Rattle.spelled_numbers.proofs.Numbers.{slice_more, digits_are, digits_not}
use Rattle.start_list.specs.Starts.{comma, joined, words, listed}
use Rattle.start_list.specs.Words.{WordTo}

joined_none : (ws : List (List ℕ)) → joined [] ws ≡ ws
unfolding joined
joined_none [] = refl
joined_none (w ∷ ws) = refl

joined_twice : (u v : List ℕ) (ws : List (List ℕ)) → joined u (joined v ws) ≡ joined (u ++ v) ws
unfolding joined
joined_twice u v [] = refl
joined_twice u v (w ∷ ws) = ap (λ (x : List ℕ). x ∷ ws) (sym (append_assoc u v w))

joined_ended : (v : List ℕ) (ws : List (List ℕ)) → joined v ([] ∷ ws) ≡ v ∷ ws
unfolding joined
joined_ended v ws = ap (λ (x : List ℕ). x ∷ ws) (append-nil v)

-- the bytes from at to k are of one word, which the words from k on go on with
pub record Passed (text : List ℕ) (at k : ℕ) : Type 0 where
  pub from : at ≤ k
  pub within : k ≤ length text
  pub same : words (drop at text) ≡ joined (slice at k text) (words (drop k text))

module _ (text : List ℕ) (k : ℕ) where
  byte_more : k < length text → (get_or text k 0 ≡ comma → ⊥) → words (drop k text) ≡ joined (get_or text k 0 ∷ []) (words (drop (k + 1) text))
  unfolding words
  byte_more h f = rw (add-one, drop-cons text k 0 h, ne_eqb _ _ f)

  byte_comma : k < length text → get_or text k 0 ≡ comma → words (drop k text) ≡ [] ∷ words (drop (k + 1) text)
  unfolding words
  byte_comma h e = rw (add-one, drop-cons text k 0 h, eq-eqb _ _ e)

  byte_none : length text ≤ k → words (drop k text) ≡ [] ∷ []
  unfolding words
  byte_none h = rw (drop_of_length-le text h)

pub passed_start : {text : List ℕ} (at : ℕ) → at ≤ length text → Passed text at at
passed_start {text} at h =
    record { from = omega arith; within = h; same = rw (slice_empty at text) (sym (joined_none (words (drop at text)))) }

module _ {text : List ℕ} {at k : ℕ} (p : Passed text at k) where
  pub passed_more : k < length text → (get_or text k 0 ≡ comma → ⊥) → Passed text at (k + 1)
  passed_more h f =
      record {
        from = omega (arith, p.from);
        within = omega arith;
        same =
            p.same
            ∙ ap (joined (slice at k text)) (byte_more text k h f)
            ∙ joined_twice (slice at k text) (get_or text k 0 ∷ []) (words (drop (k + 1) text))
            ∙ ap (λ (w : List ℕ). joined w (words (drop (k + 1) text))) (sym (slice_more text at k p.from h));
      }

  -- the word ends where the words from k on begin with an empty one
  ended : (ws : List (List ℕ)) → words (drop k text) ≡ [] ∷ ws → words (drop at text) ≡ slice at k text ∷ ws
  ended ws e = p.same ∙ ap (joined (slice at k text)) e ∙ joined_ended (slice at k text) ws

  pub word_comma : k < length text → get_or text k 0 ≡ comma → WordTo text at k
  word_comma h e =
      record {
        onward = p.from;
        within = p.within;
        last = λ l. absurd (omega arith);
        more = λ _. ended (words (drop (k + 1) text)) (byte_comma text k h e);
      }

  pub word_last : length text ≤ k → WordTo text at (length text)
  word_last h =
      let e : k ≡ length text = omega (arith, p.within) in
      record {
        onward = omega (arith, p.from);
        within = omega arith;
        last = λ _. subst (λ j. words (drop at text) ≡ slice at j text ∷ []) e (ended [] (byte_none text k h));
        more = λ l. absurd (omega arith);
      }

-- a text that is not empty lists its words
pub listed_all : (text : List ℕ) → 0 < length text → listed text ≡ words text
unfolding listed
listed_all [] h = absurd (omega arith)
listed_all (b ∷ bs) h = refl

-- the word is the first of those from its place on
pub word_first : {text : List ℕ} {at end : ℕ} → WordTo text at end → (ws : List (List ℕ)) × (words (drop at text) ≡ slice at end text ∷ ws)
word_first {text} {at} {end} w =
    elim (dec_lt end (length text)) [
      | yes l ↦ (words (drop (end + 1) text), w.more l)
      | no l ↦ ([], w.last (omega (arith, w.within)))
    ]

-- what was read of a word says whether it is a whole number, and which
module _ (w : List ℕ) {r : Option ℕ} (e : r ≡ whole_of w) where
  pub whole_not : r ≡ None → is_whole w ≡ false
  unfolding is_whole whole_of digits_of
  whole_not q = digits_not whole_most w (sym q ∙ e)

  pub whole_is : {m : ℕ} → r ≡ Some m → (is_whole w ≡ true) × (m ≡ spelled w)
  unfolding is_whole whole_of digits_of
  whole_is q = digits_are whole_most w (sym q ∙ e)
