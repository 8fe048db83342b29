-- Tables of facts, levels and steps: each record is as long as the others.
use Prim.Native.Nat.{ℕ, ◌+◌, ◌≤◌, ◌<◌}
use mathlib.Core.Path.{◌≡◌, refl, sym, ap}
use mathlib.Core.List.{List}
use native.Mathlib.Omega.{arith}
use lib.ListN.{length, get_or, set}
use lib.Seq.{sets}
use Rattle.laws.specs.Listed.{concatenate}
use Rattle.little_endian.specs.Bytes.{u16_bytes, u32_bytes}
use Rattle.job_encoding.specs.Encode.{level_row, step_row}
use Rattle.job_notes.specs.Tables.{start_noted, length_noted}
use Rattle.supplied.specs.Job.{level_from}
use Rattle.job_from_notes.specs.Putting.{Put}
use Rattle.job_from_notes.specs.TableBytes.{byte_in, level_in, step_in}
use Rattle.job_from_notes.proofs.Behind.{parts_room, parts_more}

-- how long a record is
length_byte : (list : List ℕ) (f : ℕ) → length (byte_in list f) ≡ 1
unfolding byte_in
length_byte list f = refl

length_level : (list : List ℕ) (l : ℕ) → length (level_in list l) ≡ 12
unfolding level_in level_row u32_bytes u16_bytes
length_level list l = refl

length_step : (plan : List ℕ) (s : ℕ) → length (step_in plan s) ≡ 10
unfolding step_in step_row u32_bytes u16_bytes
length_step plan s = refl

module _ {before : List ℕ} {from at : ℕ} {out : List ℕ} where
  -- room for one more, and one more is put
  module _ (f : ℕ → List ℕ) (w : ℕ) (each : (k : ℕ) → length (f k) ≡ w) where
    even_room :
        (n k : ℕ) → Put before from (concatenate k f) at out → k < n → from + length (concatenate n f) ≤ length before → at + w ≤ length out
    even_room n k v h r = omega (arith, parts_room before from f n k v h r, each k)

    even_more :
        (k : ℕ) {new : List ℕ} → Put before from (concatenate k f) at out → new ≡ sets out at (f k)
        → Put before from (concatenate (k + 1) f) (at + w) new
    even_more k v e = parts_more before from f k v (record { put = e; place = ap (λ n. at + n) (sym (each k)) })

  module _ (list : List ℕ) where
    pub facts_room :
        (n k : ℕ) → Put before from (concatenate k (byte_in list)) at out → k < n → from + length (concatenate n (byte_in list)) ≤ length before
        → at + 1 ≤ length out
    facts_room = even_room (byte_in list) 1 (length_byte list)

    pub facts_more :
        (k : ℕ) {new : List ℕ} → Put before from (concatenate k (byte_in list)) at out → new ≡ set out at (get_or list k 0)
        → Put before from (concatenate (k + 1) (byte_in list)) (at + 1) new
    unfolding byte_in
    facts_more = even_more (byte_in list) 1 (length_byte list)

    pub levels_room :
        (n k : ℕ) → Put before from (concatenate k (level_in list)) at out → k < n → from + length (concatenate n (level_in list)) ≤ length before
        → at + 12 ≤ length out
    levels_room = even_room (level_in list) 12 (length_level list)

    pub levels_more :
        (k : ℕ) {new : List ℕ} → Put before from (concatenate k (level_in list)) at out → new ≡ sets out at (level_row (level_from (get_or list k 0)))
        → Put before from (concatenate (k + 1) (level_in list)) (at + 12) new
    unfolding level_in
    levels_more = even_more (level_in list) 12 (length_level list)

  module _ (plan : List ℕ) where
    pub steps_room :
        (n k : ℕ) → Put before from (concatenate k (step_in plan)) at out → k < n → from + length (concatenate n (step_in plan)) ≤ length before
        → at + 10 ≤ length out
    steps_room = even_room (step_in plan) 10 (length_step plan)

    pub steps_more :
        (k : ℕ) {a d : ℕ} {new : List ℕ} → Put before from (concatenate k (step_in plan)) at out → a ≡ start_noted plan k → d ≡ length_noted plan k
        → new ≡ sets out at (step_row (record { start = a; length = d; fixed = 0 }))
        → Put before from (concatenate (k + 1) (step_in plan)) (at + 10) new
    unfolding step_in
    steps_more k v p q e = even_more (step_in plan) 10 (length_step plan) k v (rw (sym p, sym q) e)
