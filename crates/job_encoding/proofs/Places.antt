-- Where each part of an encoded job stands: the header at the front, each record where its table's position says.
use Prim.Native.Nat.{ℕ, zero, suc, ◌+◌, ◌*◌, ◌-◌, ◌≤◌, ◌<◌}
use mathlib.Core.Path.{◌≡◌, refl, ap, ap₂, subst, ◌∙◌}
use mathlib.Core.Bool.{Bool, true, false, cond}
use mathlib.Core.List.{List, ◌++◌}
use native.Mathlib.Nat.{zero-add, mul-suc, mul-le-mul_left}
use native.Mathlib.Decide.{ℕ_discrete}
use native.Mathlib.Omega.{arith}
use borrow.Author.Tests.{eq-eqb, ne_eqb}
use lib.Dec.{eqb}
use lib.ListN.{length, get_or, length-append}
use Rattle.laws.specs.Listed.{concatenate}
use Rattle.little_endian.specs.Bytes.{u16_bytes, u32_bytes}
use Rattle.little_endian.proofs.Stands.{Stands, stands_behind, stands_longer, stands_within, stands_part, length_parts}
use Rattle.job.specs.declared.layout.Counts.{Counts}
use Rattle.job.specs.Layout.{timed_edition, needs_edition, shortest_header, timed_header, longest_header, header_width, widths, count_list, table_at}
use Rattle.job.specs.Model.{Model}
use Rattle.job_encoding.specs.Encode.{counts_in, level_row, step_row, condition_row, effect_row, use_row, goal_row, timed_row, need_row, record_bytes}
use Rattle.job_encoding.specs.Encode.{added_bytes, header_bytes, up_to_table, encode}

-- a header is as long as its edition's
pub length_header : (edition : ℕ) (c : Counts) → length (header_bytes edition c) ≡ header_width edition
unfolding header_bytes added_bytes header_width u32_bytes u16_bytes
length_header edition c =
    elim (ℕ_discrete edition needs_edition) [
      | yes q ↦ rw (eq-eqb edition needs_edition q)
      | no q ↦
          elim (ℕ_discrete edition timed_edition) [
            | yes r ↦ rw (ne_eqb edition needs_edition q, eq-eqb edition timed_edition r)
            | no r ↦ rw (ne_eqb edition needs_edition q, ne_eqb edition timed_edition r)
          ]
    ]

pub header_width_lem : (edition : ℕ) → (shortest_header ≤ header_width edition) × (header_width edition ≤ longest_header)
unfolding header_width
header_width_lem edition = of_tests (eqb edition needs_edition) (eqb edition timed_edition)
  where
    of_tests :
        (needs timed : Bool)
        → (shortest_header ≤ cond needs longest_header (cond timed timed_header shortest_header))
        × (cond needs longest_header (cond timed timed_header shortest_header) ≤ longest_header)
    of_tests true timed = (omega arith, omega arith)
    of_tests false true = (omega arith, omega arith)
    of_tests false false = (omega arith, omega arith)

-- a record is as wide as its table's
pub record_width : (m : Model) (t k : ℕ) → t < 9 → length (record_bytes m t k) ≡ get_or widths t 0
unfolding record_bytes level_row step_row condition_row effect_row use_row goal_row timed_row need_row u32_bytes u16_bytes
record_width m zero k h = refl
record_width m (suc zero) k h = refl
record_width m (suc (suc zero)) k h = refl
record_width m (suc (suc (suc zero))) k h = refl
record_width m (suc (suc (suc (suc zero)))) k h = refl
record_width m (suc (suc (suc (suc (suc zero))))) k h = refl
record_width m (suc (suc (suc (suc (suc (suc zero)))))) k h = refl
record_width m (suc (suc (suc (suc (suc (suc (suc zero))))))) k h = refl
record_width m (suc (suc (suc (suc (suc (suc (suc (suc zero)))))))) k h = refl
record_width m (suc (suc (suc (suc (suc (suc (suc (suc (suc t))))))))) k h = absurd (omega arith)

module _ (edition : ℕ) (m : Model) where
  -- where a table starts
  abbrev pub start_of : ℕ → ℕ
  start_of t = table_at (header_width edition) (counts_in m) t

  abbrev pub count_of : ℕ → ℕ
  count_of t = get_or (count_list (counts_in m)) t 0

  -- the file up to a table is as long as the table's position says
  length_up_to : (t : ℕ) → t ≤ 9 → length (up_to_table edition m t) ≡ start_of t
  unfolding up_to_table table_at
  length_up_to zero h = length_header edition (counts_in m)
  length_up_to (suc t) h =
      length-append (up_to_table edition m t) (concatenate (count_of t) (record_bytes m t))
      ∙ ap₂ ◌+◌ (length_up_to t (omega arith)) (length_parts (record_bytes m t) (get_or widths t 0) (λ k. record_width m t k h) (count_of t))

  pub length_encode : length (encode edition m) ≡ table_at (header_width edition) (counts_in m) 9
  length_encode = length_up_to 9 (omega arith)

  -- what stands before a table stands in the whole file
  stands_on :
      (d t : ℕ) → d + t ≡ 9 → (part : List ℕ) (at : ℕ) → Stands (up_to_table edition m t) at part
      → at + length part ≤ length (up_to_table edition m t)
      → Stands (encode edition m) at part
  unfolding up_to_table
  stands_on zero t q part at p h = let z : t ≡ 9 = omega arith in subst (λ (j : ℕ). Stands (up_to_table edition m j) at part) z p
  stands_on (suc d) t q part at p h =
      let b = concatenate (count_of t) (record_bytes m t) in
      stands_on d (suc t) (omega arith) part at (stands_longer (up_to_table edition m t) b part at p h)
      (omega (arith, length-append (up_to_table edition m t) b))

  pub header_stands : Stands (encode edition m) 0 (header_bytes edition (counts_in m))
  unfolding up_to_table
  header_stands =
      let b = header_bytes edition (counts_in m) in stands_on 9 0 refl b 0 (λ j h. ap (λ k. get_or b k 0) (zero-add j)) (omega arith)

  pub record_stands :
      (t k : ℕ) → t < 9 → k < count_of t → Stands (encode edition m) (start_of t + get_or widths t 0 * k) (record_bytes m t k)
  unfolding up_to_table
  record_stands t k l h =
      let w = get_or widths t 0 in
      let p = up_to_table edition m t in
      let b = concatenate (count_of t) (record_bytes m t) in
      let each : (k : ℕ) → length (record_bytes m t k) ≡ w = λ k. record_width m t k l in
      let lp : length p ≡ start_of t = length_up_to t (omega arith) in
      let lb : length b ≡ w * count_of t = length_parts (record_bytes m t) w each (count_of t) in
      let inside : w * k + w ≤ w * count_of t = omega (arith, mul-suc w k, mul-le-mul_left w h) in
      stands_on (8 - t) (suc t) (omega arith) (record_bytes m t k) (start_of t + w * k)
      (stands_within (p ++ b) b (record_bytes m t k) (start_of t) (w * k) (stands_behind p b (start_of t) lp)
      (stands_part (record_bytes m t) w each (count_of t) k h)
      (omega (arith, each k)))
      (omega (arith, each k, length-append p b))
