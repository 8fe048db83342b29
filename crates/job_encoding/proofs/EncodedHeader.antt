-- The header's refusals of an encoded job: 1 to 3 and 5 pass, and 4 is that of its counts.
use Prim.Native.Nat.{ℕ, zero, suc, ◌+◌, ◌≤◌, ◌<◌}
use mathlib.Core.Path.{◌≡◌, refl, sym, ap, ap₂, subst, ◌∙◌}
use mathlib.Core.Bool.{Bool, true, false, not, ◌&&◌, ◌||◌}
use native.Mathlib.Nat.{zero-add}
use native.Mathlib.Decide.{dec_lt, ℕ_discrete}
use native.Mathlib.Omega.{arith}
use borrow.Author.Tests.{eq-eqb, ne_eqb, lt-ltb, le-ltb, le-leb}
use lib.Dec.{ltb, eqb}
use lib.ListN.{length}
use Rattle.little_endian.specs.Bytes.{u32_values, u32_at, u16_at, u16_bytes, u32_bytes}
use Rattle.little_endian.proofs.Stands.{stands_u32}
use Rattle.verdict.specs.declared.Refusal.TheVariants.{FileTooShort, UnknownEdition, MarkOutOfRange, CountTooHigh, LayoutDisagrees}
use Rattle.verdict.specs.Verdict.{◌then◌, refuse_if}
use Rattle.job.specs.Layout.{latest_edition, timed_edition, needs_edition, shortest_header, timed_header, longest_header, header_width, table_at}
use Rattle.job.specs.Layout.{positions_of, count_too_high}
use Rattle.job.specs.Model.{Model}
use Rattle.header_check.specs.Header.{edition_known, marks_wrong, layout_agrees, header_check}
use Rattle.job_encoding.specs.Encode.{counts_in, added_bytes, header_bytes, encode}
use Rattle.job_encoding.specs.Fits.{Fits}
use Rattle.job_encoding.proofs.Places.{start_of, length_header, header_width_lem, length_encode, header_stands}
use Rattle.job_encoding.proofs.RoundTrip.{four, u32_back, header_u16, job_in, unmarked, job_back}

-- six checks in a row, of which only the fifth may refuse
passing :
    (a b c d e f : Bool) → a ≡ false → b ≡ false → c ≡ false → d ≡ false → f ≡ false
    → (refuse_if a FileTooShort then refuse_if b UnknownEdition then refuse_if c FileTooShort then refuse_if d MarkOutOfRange
    then refuse_if e CountTooHigh
    then refuse_if f LayoutDisagrees)
    ≡ refuse_if e CountTooHigh
unfolding ◌then◌ refuse_if
passing a b c d true f p q r s t = rw (p, q, r, s)
passing a b c d false f p q r s t = rw (p, q, r, s, t)

module _ (edition : ℕ) (m : Model) (w : Fits edition m) where
  -- the tables begin, and the file ends, where four bytes can say
  within_four : (d t : ℕ) → d + t ≡ 9 → start_of edition m t < u32_values
  unfolding table_at counts_in
  within_four zero t q =
      let z : t ≡ 9 = omega arith in
      let e : start_of edition m 9 < u32_values =
      omega (arith, header_width_lem edition, w.facts, w.levels, w.steps, w.conditions, w.effects, w.uses, w.goals, w.timed, w.needs)
      in
      subst (λ (j : ℕ). start_of edition m j < u32_values) (sym z) e
  within_four (suc d) t q = omega (arith, within_four d (suc t) (omega arith))

  offset :
      (i d t : ℕ) → d + t ≡ 9 → i + 4 ≤ header_width edition → u32_at (header_bytes edition (counts_in m)) i ≡ four (start_of edition m t)
      → eqb (u32_at (encode edition m) i) (start_of edition m t) ≡ true
  offset i d t q l e =
      eq-eqb _ _
      (ap (u32_at (encode edition m)) (sym (zero-add i))
      ∙ stands_u32 (encode edition m) 0 (header_bytes edition (counts_in m)) (header_stands edition m) i
      (omega (arith, length_header edition (counts_in m)))
      ∙ e
      ∙ u32_back (start_of edition m t) (within_four d t q))

  -- what an edition with timed facts adds, and the one with needs
  abbrev TimedAdded : ℕ → Type 0
  TimedAdded n = (timed_header ≤ header_width n) × (u32_at (header_bytes n (counts_in m)) 48 ≡ four (start_of n m 7))

  abbrev NeedsAdded : ℕ → Type 0
  NeedsAdded n =
      (longest_header ≤ header_width n)
      × (u16_at (header_bytes n (counts_in m)) 54 ≡ 0)
      × (u32_at (header_bytes n (counts_in m)) 56 ≡ four (start_of n m 8))

  timed_added : timed_edition ≤ edition → TimedAdded edition
  unfolding header_bytes added_bytes header_width u32_bytes u16_bytes u32_at u16_at
  timed_added h =
      elim (ℕ_discrete edition needs_edition) [
        | yes q ↦ subst TimedAdded (sym q) (omega arith, refl)
        | no q ↦ let e : edition ≡ timed_edition = omega (arith, w.edition_to) in subst TimedAdded (sym e) (omega arith, refl)
      ]

  needs_added : edition ≡ needs_edition → NeedsAdded edition
  unfolding header_bytes added_bytes header_width u32_bytes u16_bytes u32_at u16_at
  needs_added q = subst NeedsAdded (sym q) (omega arith, refl, refl)

  timed_offset : (ltb edition timed_edition || eqb (u32_at (encode edition m) 48) (start_of edition m 7)) ≡ true
  timed_offset =
      elim (dec_lt edition timed_edition) [
        | yes h ↦ rw (lt-ltb edition timed_edition h)
        | no h ↦
            let a = timed_added (omega arith) in
            ap₂ ◌||◌ (le-ltb edition timed_edition (omega arith)) (offset 48 2 7 refl (omega (arith, a.0)) a.1)
      ]

  needs_offset : (not (eqb edition needs_edition) || eqb (u32_at (encode edition m) 56) (start_of edition m 8)) ≡ true
  needs_offset =
      elim (ℕ_discrete edition needs_edition) [
        | yes q ↦
            let a = needs_added q in
            ap₂ (λ b c. not b || c) (eq-eqb edition needs_edition q) (offset 56 1 8 refl (omega (arith, a.0)) a.2)
        | no q ↦ rw (ne_eqb edition needs_edition q)
      ]

  agrees : layout_agrees (encode edition m) (job_in edition m) ≡ true
  unfolding layout_agrees positions_of header_bytes u32_bytes u16_bytes u32_at u16_at
  agrees =
      rw (
        offset 20 9 0 refl (omega (arith, header_width_lem edition)) refl,
        offset 24 8 1 refl (omega (arith, header_width_lem edition)) refl,
        offset 28 7 2 refl (omega (arith, header_width_lem edition)) refl,
        offset 32 6 3 refl (omega (arith, header_width_lem edition)) refl,
        offset 36 5 4 refl (omega (arith, header_width_lem edition)) refl,
        offset 40 4 5 refl (omega (arith, header_width_lem edition)) refl,
        offset 44 3 6 refl (omega (arith, header_width_lem edition)) refl,
        timed_offset,
        needs_offset,
        eq-eqb (length (encode edition m)) (start_of edition m 9) (length_encode edition m),
      )

  timed_mark : (ltb edition timed_edition && not (eqb m.timed 0)) ≡ false
  timed_mark =
      elim (dec_lt edition timed_edition) [
        | yes h ↦ ap₂ (λ b c. b && not c) (lt-ltb edition timed_edition h) (eq-eqb m.timed 0 (w.timed_none h))
        | no h ↦ rw (le-ltb edition timed_edition (omega arith))
      ]

  needs_mark : (eqb edition needs_edition && not (eqb (u16_at (encode edition m) 54) 0)) ≡ false
  needs_mark =
      elim (ℕ_discrete edition needs_edition) [
        | yes q ↦
            let a = needs_added q in
            ap₂ (λ b c. b && not c) (eq-eqb edition needs_edition q)
            (eq-eqb _ 0 (header_u16 edition m 54 0 (omega (arith, a.0)) a.1 (omega arith)))
        | no q ↦ rw (ne_eqb edition needs_edition q)
      ]

  marks : marks_wrong (encode edition m) (job_in edition m) ≡ false
  unfolding marks_wrong counts_in
  marks = rw (unmarked edition m w, timed_mark, needs_mark)

  known : edition_known edition ≡ true
  unfolding edition_known
  known = rw (le-leb 1 edition w.edition_from, le-leb edition latest_edition w.edition_to)

  long : header_width edition ≤ length (encode edition m)
  unfolding table_at
  long = rw (length_encode edition m) (omega arith)

  -- of the header's refusals an encoded job gets 4 only
  pub encoded_header : header_check (encode edition m) ≡ refuse_if (count_too_high (counts_in m)) CountTooHigh
  unfolding header_check
  encoded_header =
      let s = encode edition m in
      let e = job_back edition m w in
      passing _ _ _ _ _ _ (le-ltb (length s) shortest_header (omega (arith, header_width_lem edition, long)))
      (ap (λ j. not (edition_known j.edition)) e ∙ ap not known)
      (ap (λ j. ltb (length s) (header_width j.edition)) e ∙ le-ltb (length s) (header_width edition) long)
      (ap (marks_wrong s) e ∙ marks)
      (ap (λ j. not (layout_agrees s j)) e ∙ ap not agrees)
      ∙ ap (λ j. refuse_if (count_too_high j.count) CountTooHigh) e
