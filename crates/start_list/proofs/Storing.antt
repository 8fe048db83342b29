-- Laws of storing the starts of a list: none stored, one more, the last, and no room for more.
use Prim.Native.Nat.{ℕ, suc, ◌+◌, ◌≤◌, ◌<◌}
use mathlib.Core.Path.{◌≡◌, refl, sym, ap, ◌∙◌}
use mathlib.Core.Bool.{true}
use mathlib.Core.List.{List, [], ◌∷◌, ◌++◌, map, append-nil}
use native.Mathlib.Numerals.{add-one}
use native.Mathlib.Omega.{arith}
use lib.ListN.{length, set, take, drop, length-set, take-append-drop, drop_of_length-le}
use lib.Seq.{slice, drop-nil, take_all, drop-cons, append_snoc, take-suc-set, drop-set-lt}
use Rattle.std.specs.Prelude.{Option, Some, None}
use Rattle.laws.proofs.Search.{contrary, and_both}
use Rattle.spelling.specs.Numbers.{is_whole, spelled, whole_of}
use Rattle.listing.specs.Listed.{filled}
use Rattle.listing.proofs.Filling.{filled_none}
use Rattle.start_list.specs.Starts.{words, all_whole, is_list, starts_in}
use Rattle.start_list.specs.Words.{WordTo}
use Rattle.start_list.proofs.Words.{listed_all, word_first, whole_not, whole_is}

-- a list filled with numbers from index n on
unfoldable pub filled_from : ℕ → List ℕ → List ℕ → List ℕ
filled_from n list xs = take n list ++ filled (drop n list) xs

fill_more : (n x : ℕ) (list xs : List ℕ) → n < length list → filled_from n list (x ∷ xs) ≡ filled_from (n + 1) (set list n x) xs
unfolding filled_from filled
fill_more n x list xs h =
    rw (add-one, take-suc-set list n x h, drop-set-lt (suc n) list n x (omega arith), drop-cons list n 0 h)
    (sym (append_snoc (take n list) x (filled (drop (suc n) list) xs)))

fill_end : (n : ℕ) (list : List ℕ) → filled_from n list [] ≡ list
unfolding filled_from
fill_end n list = rw (filled_none (drop n list)) (take-append-drop n list)

fill_full : (n : ℕ) (list xs : List ℕ) → length list ≤ n → filled_from n list xs ≡ list
unfolding filled_from filled
fill_full n list xs h = rw (take_all n list h, drop_of_length-le list h, drop-nil (length xs)) (append-nil list)

-- n starts stand, and those of the words from a place on, all of them starts, are yet to be stored
pub record Stored (text before list : List ℕ) (at n : ℕ) : Type 0 where
  pub within : at ≤ length text
  pub size : length list ≡ length before
  pub whole : all_whole (words (drop at text)) ≡ true
  pub same : filled before (starts_in text) ≡ filled_from n list (map spelled (words (drop at text)))

pub store_start : (text before : List ℕ) → 0 < length text → is_list text ≡ true → Stored text before before 0 0
unfolding is_list starts_in filled_from
store_start text before h t =
    let e = listed_all text h in
    record {
      within = omega arith;
      size = refl;
      whole = rw e at t;
      same = rw (t, e);
    }

module _ {text before list : List ℕ} {at n : ℕ} (s : Stored text before list at n) where
  pub store_full : length list ≤ n → list ≡ filled before (starts_in text)
  store_full h = sym (s.same ∙ fill_full n list (map spelled (words (drop at text))) h)

  module _ {end : ℕ} {r : Option ℕ} (w : WordTo text at end) (e : r ≡ whole_of (slice at end text)) where
    -- the word is a start, and so are those behind it
    starts : (ws : List (List ℕ)) → words (drop at text) ≡ slice at end text ∷ ws → (is_whole (slice at end text) ≡ true) × (all_whole ws ≡ true)
    unfolding all_whole
    starts ws f = and_both (is_whole (slice at end text)) (all_whole ws) (rw f at s.whole)

    pub store_odd : r ≡ None → ⊥
    store_odd q = let first = word_first w in contrary (starts first.0 first.1).0 (whole_not (slice at end text) e q)

    module _ {m : ℕ} (q : r ≡ Some m) (h : n < length list) where
      stored :
          (ws : List (List ℕ)) → words (drop at text) ≡ slice at end text ∷ ws →
          filled before (starts_in text) ≡ filled_from (n + 1) (set list n m) (map spelled ws)
      stored ws f =
          s.same
          ∙ ap (λ (vs : List (List ℕ)). filled_from n list (map spelled vs)) f
          ∙ fill_more n (spelled (slice at end text)) list (map spelled ws) h
          ∙ ap (λ (x : ℕ). filled_from (n + 1) (set list n x) (map spelled ws)) (sym (whole_is (slice at end text) e q).1)

      pub store_last : end ≡ length text → set list n m ≡ filled before (starts_in text)
      store_last l = sym (stored [] (w.last l) ∙ fill_end (n + 1) (set list n m))

      pub store_more : (end ≡ length text → ⊥) → Stored text before (set list n m) (end + 1) (n + 1)
      store_more f =
          let l : end < length text = omega (arith, w.within) in
          record {
            within = omega arith;
            size = length-set list n m ∙ s.size;
            whole = (starts _ (w.more l)).1;
            same = stored _ (w.more l);
          }
