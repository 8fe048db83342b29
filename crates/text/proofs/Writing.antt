-- Laws of writing: one text behind another, one byte more of a word, and the text at the front of a buffer.
use Prim.Native.Nat.{ℕ, ◌+◌, ◌<◌, ◌≤◌}
use mathlib.Core.Path.{◌≡◌, refl, sym, ap, ◌∙◌}
use mathlib.Core.List.{List, [], ◌∷◌, ◌++◌}
use native.Mathlib.Numerals.{add-one}
use native.Mathlib.Decide.{dec_le}
use native.Mathlib.Omega.{arith}
use lib.ListN.{length, get_or, take, drop, set, length-append, length-take, take-append-drop, drop_of_length-le}
use lib.Seq.{sets, length-sets, take-suc, take_all}
use Rattle.little_endian.proofs.Sets.{sets_out, sets_behind, sets_first}
use Rattle.text.specs.Put.{Put, Written}

-- one text behind another
pub put_then : {l m n s t : List ℕ} {at i j : ℕ} → Put l at s m i → Put m i t n j → Put l at (s ++ t) n j
put_then {l} {m} {n} {s} {t} {at} {i} {j} p q =
    record {
      bytes = q.bytes ∙ ap (λ (k : List ℕ). sets k i t) p.bytes ∙ sym (sets_behind l s t at i (sym p.ends));
      ends = omega (arith, p.ends, q.ends, length-append s t);
    }

-- what is put is the same text, of at most w bytes
pub put_as : {l m s t : List ℕ} {at r w : ℕ} → t ≡ s → length s ≤ w → Put l at s m r → Put l at t m r × (r ≤ at + w)
put_as e h p = (rw e p, omega (arith, p.ends, h))

-- the buffer keeps its length
pub put_length : {l text m : List ℕ} {at r : ℕ} → Put l at text m r → length m ≡ length l
put_length {l} {text} {m} {at} p = ap length p.bytes ∙ length-sets l at text

-- one byte
put_byte : (l m : List ℕ) (at b : ℕ) → m ≡ set l at b → Put l at (b ∷ []) m (at + 1)
put_byte l m at b e = record { bytes = e; ends = refl }

-- one byte more of a word
pub word_more :
    {l m : List ℕ} (n word : List ℕ) (at k : ℕ) → Put l at (take k word) m (at + k) → k < length word → n ≡ set m (at + k) (get_or word k 0)
    → Put l at (take (k + 1) word) n (at + (k + 1))
word_more {l} {m} n word at k p h s =
    let e : at + (k + 1) ≡ at + k + 1 = omega arith in
    rw (e, add-one k, take-suc word k 0 h) (put_then p (put_byte m n (at + k) (get_or word k 0) s))

-- the whole word
pub word_end :
    {l m : List ℕ} (word : List ℕ) (at k : ℕ) → Put l at (take k word) m (at + k) → length word ≤ k → k ≤ length word
    → Put l at word m (at + length word)
word_end word at k p h g = let e : k ≡ length word = omega arith in rw e at (rw (take_all k word h) at p)

-- a text at the very front of any list
sets_front : (l text : List ℕ) → sets l 0 text ≡ take (length l) text ++ drop (length text) l
sets_front l text =
    let n = length l in
    let some = take n text in
    elim (dec_le (length text) n) [
      | yes h ↦ rw (take_all n text h) (sets_first l text h)
      | no h ↦
          let e : length some ≡ n = length-take n text ∙ omega arith in
          ap (sets l 0) (sym (take-append-drop n text))
          ∙ sets_behind l some (drop n text) 0 n (omega arith)
          ∙ sets_out (sets l 0 some) n (drop n text) (rw length-sets (omega arith))
          ∙ sets_first l some (omega arith)
          ∙ ap (λ (k : List ℕ). some ++ k)
          (drop_of_length-le l {i = length some} (omega arith) ∙ sym (drop_of_length-le l {i = length text} (omega arith)))
    ]

-- a text put at the front is written
pub put_written : {l text m : List ℕ} {r : ℕ} → Put l 0 text m r → Written text l m r
put_written {l} {text} {m} {r} p =
    let e : r ≡ length text = omega (arith, p.ends) in
    record { counted = e; bytes = rw e (p.bytes ∙ sets_front l text) }
