-- Laws of counting the starts of a text: none counted, one more, the last, and a word that is no start.
use Prim.Native.Nat.{ℕ, ◌+◌, ◌≤◌, ◌<◌}
use mathlib.Core.Path.{◌≡◌, refl, sym, ap, ◌∙◌}
use mathlib.Core.Bool.{Bool, true, false, cond}
use mathlib.Core.List.{List, [], ◌∷◌, map}
use native.Mathlib.Nat.{zero-add}
use native.Mathlib.Omega.{arith}
use lib.ListN.{length, drop, length-map}
use lib.Seq.{slice, length-slice}
use Rattle.std.specs.Prelude.{Option, Some, None}
use Rattle.spelling.specs.Numbers.{is_whole, spelled, digits_of, whole_of, whole_most}
use Rattle.spelled_numbers.proofs.Numbers.{digits_count}
use Rattle.start_list.specs.Starts.{words, all_whole, is_list, starts_in, starts_read}
use Rattle.start_list.specs.Words.{WordTo}
use Rattle.start_list.proofs.Words.{listed_all, word_first, whole_not, whole_is}

-- what a text is read as, n of whose words were starts and these are left
unfoldable pub read_from : ℕ → List (List ℕ) → Option ℕ
read_from n ws = cond (all_whole ws) (Some (n + length ws)) None

one_each_lem : (t : Bool) (ws : List (List ℕ)) → cond t (Some (length (cond t (map spelled ws) []))) None ≡ cond t (Some (0 + length ws)) None
one_each_lem true ws = ap Some (length-map ws spelled ∙ sym (zero-add (length ws)))
one_each_lem false ws = refl

read_all : (text : List ℕ) → 0 < length text → starts_read text ≡ read_from 0 (words text)
unfolding starts_read starts_in is_list read_from
read_all text h = rw (listed_all text h) (one_each_lem (all_whole (words text)) (words text))

read_odd : (n : ℕ) (w : List ℕ) (ws : List (List ℕ)) → is_whole w ≡ false → read_from n (w ∷ ws) ≡ None
unfolding read_from all_whole
read_odd n w ws f = rw f

read_more : (n : ℕ) (w : List ℕ) (ws : List (List ℕ)) → is_whole w ≡ true → read_from n (w ∷ ws) ≡ read_from (n + 1) ws
unfolding read_from all_whole
read_more n w ws t = rw t (ap (λ (k : ℕ). cond (all_whole ws) (Some k) None) (omega arith))

read_none : (n : ℕ) → read_from n [] ≡ Some n
unfolding read_from all_whole
read_none n = ap Some (omega arith)

-- n words were starts, and the words from a place on are left
pub record Counted (text : List ℕ) (at n : ℕ) : Type 0 where
  pub within : at ≤ length text
  pub few : n ≤ at
  pub same : starts_read text ≡ read_from n (words (drop at text))

pub count_start : (text : List ℕ) → 0 < length text → Counted text 0 0
count_start text h = record { within = omega arith; few = omega arith; same = read_all text h }

module _ {text : List ℕ} {at n end : ℕ} {r : Option ℕ} (c : Counted text at n) (w : WordTo text at end) (e : r ≡ whole_of (slice at end text)) where
  pub count_odd : r ≡ None → None ≡ starts_read text
  count_odd q =
      let first = word_first w in
      sym (c.same ∙ ap (read_from n) first.1 ∙ read_odd n (slice at end text) first.0 (whole_not (slice at end text) e q))

  module _ {m : ℕ} (q : r ≡ Some m) where
    -- a start has a byte, so there are fewer starts than bytes
    pub count_fits : n + 1 ≤ length text
    unfolding is_whole whole_of digits_of
    count_fits = omega (arith, c.few, w.within, digits_count whole_most (slice at end text) (sym q ∙ e), length-slice at end text w.within)

    counted : (ws : List (List ℕ)) → words (drop at text) ≡ slice at end text ∷ ws → starts_read text ≡ read_from (n + 1) ws
    counted ws f = c.same ∙ ap (read_from n) f ∙ read_more n (slice at end text) ws (whole_is (slice at end text) e q).0

    pub count_last : end ≡ length text → Some (n + 1) ≡ starts_read text
    count_last l = sym (counted [] (w.last l) ∙ read_none (n + 1))

    pub count_more : (end ≡ length text → ⊥) → Counted text (end + 1) (n + 1)
    count_more f =
        let l : end < length text = omega (arith, w.within) in
        record {
          within = omega arith;
          few = omega (arith, c.few, w.onward);
          same = counted (words (drop (end + 1) text)) (w.more l);
        }
