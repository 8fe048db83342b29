-- Parts put one behind the other: one more, the last, and the room there is.
use Prim.Native.Nat.{ℕ, zero, suc, ◌+◌, ◌≤◌, ◌<◌}
use mathlib.Core.Path.{◌≡◌, refl, sym, ap, ◌∙◌}
use mathlib.Core.List.{List, [], ◌++◌}
use native.Mathlib.Nat.{add-zero}
use native.Mathlib.Decide.{dec_le}
use native.Mathlib.Omega.{arith}
use lib.ListN.{length, length-append}
use lib.Seq.{sets, length-sets}
use Rattle.laws.specs.Listed.{concatenate}
use Rattle.laws.proofs.Listed.{concatenate_more}
use Rattle.little_endian.proofs.Sets.{sets_behind}
use Rattle.job_from_notes.specs.Putting.{Putting, Put}

put_length : (l : List ℕ) (at : ℕ) (part : List ℕ) {out : List ℕ} → out ≡ sets l at part → length out ≡ length l
put_length l at part e = ap length e ∙ length-sets l at part

-- a loop that puts what is left
module _ (before : List ℕ) (from : ℕ) (whole : List ℕ) where
  pub putting_start : Putting before from whole whole from before
  putting_start = record { put = refl; place = refl }

  module _ {rest : List ℕ} {at : ℕ} {out : List ℕ} (w : Putting before from whole rest at out) where
    pub putting_size : length out ≡ length before
    putting_size = sym (length-sets out at rest) ∙ ap length w.put ∙ length-sets before from whole

    -- the next part fits where the whole does, and then the rest is left
    module _ (part next : List ℕ) (e : rest ≡ part ++ next) where
      pub putting_room : from + length whole ≤ length before → at + length part ≤ length out
      putting_room h = omega (arith, h, w.place, ap length e, length-append part next, putting_size)

      pub putting_more : {place : ℕ} {new : List ℕ} → Put out at part place new → Putting before from whole next place new
      putting_more {place} p =
          record {
            put =
                ap (λ l. sets l place next) p.put
                ∙ sym (sets_behind out part next at place (sym p.place))
                ∙ ap (sets out at) (sym e)
                ∙ w.put;
            place = omega (arith, p.place, w.place, ap length e, length-append part next);
          }

    pub putting_end : rest ≡ [] → Put before from whole at out
    putting_end e = record { put = sym (ap (sets out at) e) ∙ w.put; place = omega (arith, w.place, ap length e) }

-- a loop that puts the parts of an index
module _ (before : List ℕ) (from : ℕ) where
  pub put_size : {bytes : List ℕ} {at : ℕ} {out : List ℕ} → Put before from bytes at out → length out ≡ length before
  put_size {bytes} w = put_length before from bytes w.put

  pub put_on :
      {bytes : List ℕ} {at : ℕ} {out : List ℕ} (part : List ℕ) {place : ℕ} {new : List ℕ} → Put before from bytes at out
      → Put out at part place new
      → Put before from (bytes ++ part) place new
  put_on {bytes} {at} part w p =
      record {
        put = p.put ∙ ap (λ l. sets l at part) w.put ∙ sym (sets_behind before bytes part from at (sym w.place));
        place = omega (arith, p.place, w.place, length-append bytes part);
      }

  module _ (f : ℕ → List ℕ) where
    pub parts_start : Put before from (concatenate 0 f) from before
    unfolding concatenate
    parts_start = record { put = refl; place = sym (add-zero from) }

    pub parts_more :
        (k : ℕ) {at place : ℕ} {out new : List ℕ} → Put before from (concatenate k f) at out
        → Put out at (f k) place new
        → Put before from (concatenate (k + 1) f) place new
    parts_more k w p = rw (concatenate_more f k) (put_on (f k) w p)

    -- the parts below an index are no longer than all
    parts_below : (n k : ℕ) → k ≤ n → length (concatenate k f) ≤ length (concatenate n f)
    unfolding concatenate
    parts_below zero k h = let q : k ≡ 0 = omega arith in rw q (omega arith)
    parts_below (suc n) k h =
        elim (dec_le k n) [
          | yes l ↦ omega (arith, parts_below n k l, length-append (concatenate n f) (f n))
          | no l ↦ let q : k ≡ suc n = omega arith in rw q (omega arith)
        ]

    pub parts_room :
        (n k : ℕ) {at : ℕ} {out : List ℕ} → Put before from (concatenate k f) at out → k < n → from + length (concatenate n f) ≤ length before
        → at + length (f k) ≤ length out
    parts_room n k w h r =
        let below = parts_below n (k + 1) (omega arith) in
        omega (arith, w.place, put_size w, below, ap length (concatenate_more f k), length-append (concatenate k f) (f k))
