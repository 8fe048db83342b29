-- Input that is longer than any job is refused for its length at the latest, and 1 to 4 look at the header alone. So what is shown of it is
-- decided by its beginning.
use Prim.Native.Nat.{ℕ, ◌+◌, ◌*◌, ◌≤◌, ◌<◌}
use mathlib.Core.Path.{◌≡◌, sym, ap, ap₂, ◌∙◌, subst}
use mathlib.Core.Bool.{Bool, true, false, not}
use mathlib.Core.List.{List}
use mathlib.Core.Logic.{⊎_elim}
use native.Mathlib.Decide.{ℕ_discrete, dec_le}
use native.Mathlib.Omega.{arith}
use borrow.Author.Tests.{ltb-false, le-ltb, eqb-true, ne_eqb}
use lib.ListN.{length, get_or, take}
use lib.Dec.{ltb, eqb}
use lib.Seq.{take_all, get_or-take, length-take-le}
use Rattle.std.specs.Prelude.{Err}
use Rattle.laws.proofs.Search.{either, and_l, and_r, any_false}
use Rattle.little_endian.specs.Bytes.{u16_at}
use Rattle.verdict.specs.declared.Refusal.TheVariants.{FileTooShort, UnknownEdition, MarkOutOfRange, CountTooHigh, LayoutDisagrees}
use Rattle.verdict.specs.Verdict.{Verdict, number, place, ◌then◌, refuse_if}
use Rattle.verdict.proofs.Chain.{then_refused, first_refused, then_zero, refuse_zero}
use Rattle.job.specs.declared.layout.Counts.{Counts}
use Rattle.job.specs.Layout.{timed_edition, needs_edition, shortest_header, longest_header, header_width, counts_of, count_list, highest, table_at}
use Rattle.job.specs.Layout.{positions_of, job_of, count_too_high}
use Rattle.header_check.specs.Header.{edition_known, marks_wrong, layout_agrees, header_check}
use Rattle.form.specs.Refusals.{form_check}
use Rattle.validity.specs.Checks.{job_check}
use Rattle.partialize.specs.Partialization.{accepts}
use Rattle.sheet.specs.Text.{refused_text}
use Rattle.text.specs.Put.{Written}
use Rattle.printout.specs.Shown.{shown, most_job, input_most, ShowsInput}

-- refusals 1 to 4
front : List ℕ → Verdict
front s =
    refuse_if (ltb (length s) shortest_header) FileTooShort
    then refuse_if (not (edition_known (job_of s).edition)) UnknownEdition
    then refuse_if (ltb (length s) (header_width (job_of s).edition)) FileTooShort
    then refuse_if (marks_wrong s (job_of s)) MarkOutOfRange
    then refuse_if (count_too_high (job_of s).count) CountTooHigh

header_most : (edition : ℕ) → header_width edition ≤ longest_header
unfolding header_width
header_most edition =
    ⊎_elim
    (λ (n : eqb edition needs_edition ≡ true). rw n (omega arith))
    (λ (n : eqb edition needs_edition ≡ false).
    ⊎_elim
    (λ (t : eqb edition timed_edition ≡ true). rw (n, t) (omega arith))
    (λ (t : eqb edition timed_edition ≡ false). rw (n, t) (omega arith))
    (either (eqb edition timed_edition)))
    (either (eqb edition needs_edition))

-- the tables end within the longest job where no count is too high
end_most : (header : ℕ) (c : Counts) → header ≤ longest_header → count_too_high c ≡ false → table_at header c 9 ≤ most_job
unfolding count_too_high table_at
end_most header c h e =
    let n : (t : ℕ) → t < 9 → get_or (count_list c) t 0 ≤ get_or highest t 0 = λ t h. ltb-false _ _ (any_false _ 9 e t h) in
    omega (
      arith,
      n 0 (omega arith),
      n 1 (omega arith),
      n 2 (omega arith),
      n 3 (omega arith),
      n 4 (omega arith),
      n 5 (omega arith),
      n 6 (omega arith),
      n 7 (omega arith),
      n 8 (omega arith),
    )

module _ (s : List ℕ) (long : most_job < length s) where
  whole : layout_agrees s (job_of s) ≡ true → length s ≡ table_at (header_width (u16_at s 0)) (counts_of s) 9
  unfolding layout_agrees job_of positions_of
  whole t = eqb-true (length s) (table_at (header_width (u16_at s 0)) (counts_of s) 9) (search (and_l, and_r, t))

  disagrees : count_too_high (job_of s).count ≡ false → layout_agrees s (job_of s) ≡ false
  unfolding job_of
  disagrees e =
      ⊎_elim
      (λ (t : layout_agrees s (job_of s) ≡ true).
      absurd (omega (arith, whole t, end_most (header_width (u16_at s 0)) (counts_of s) (header_most (u16_at s 0)) e)))
      (λ (t : layout_agrees s (job_of s) ≡ false). t)
      (either (layout_agrees s (job_of s)))

  -- 5 at the latest
  header_long : header_check s ≡ (front s then Err LayoutDisagrees)
  unfolding header_check front refuse_if
  header_long =
      elim (ℕ_discrete (number (front s)) 0) [
        | yes z ↦
            let e = refuse_zero (count_too_high (job_of s).count) CountTooHigh (then_zero _ _ z).1 in
            ap (λ (b : Bool). front s then refuse_if (not b) LayoutDisagrees) (disagrees e)
        | no n ↦ sym (then_refused _ _ n) ∙ then_refused _ _ n
      ]

  not_passed : number (header_check s) ≡ 0 → ⊥
  not_passed z =
      let q : ◌≡◌ {A = ℕ} 5 0 = (then_zero (front s) (Err LayoutDisagrees) (sym (ap number header_long) ∙ z)).1 in
      omega arith

  job_long : job_check s ≡ (front s then Err LayoutDisagrees)
  unfolding job_check form_check
  job_long =
      let e = first_refused (header_check s) _ _ not_passed in
      let f = e ∙ then_refused _ _ (λ z. not_passed (ap number e ∙ z)) in
      sym (then_refused _ _ (λ z. not_passed (ap number f ∙ z))) ∙ sym f ∙ header_long

  not_accepted : accepts s ≡ false
  unfolding accepts
  not_accepted =
      ne_eqb _ _ (λ z. let q : ◌≡◌ {A = ℕ} 5 0 = (then_zero (front s) (Err LayoutDisagrees) (sym (ap number job_long) ∙ z)).1 in omega arith)

  shown_long : shown s ≡ refused_text (number (front s then Err LayoutDisagrees)) (place (front s then Err LayoutDisagrees))
  unfolding shown
  shown_long = rw not_accepted (ap (λ (v : Verdict). refused_text (number v) (place v)) job_long)

-- two files with the same header
module _ (s t : List ℕ) (long : longest_header ≤ length s) (other : longest_header ≤ length t)
    (r : (at : ℕ) → at < longest_header → u16_at s at ≡ u16_at t at) where
  job_same : job_of s ≡ job_of t
  unfolding job_of counts_of
  job_same =
      cc (
        r 0 (omega arith),
        r 4 (omega arith),
        r 6 (omega arith),
        r 8 (omega arith),
        r 10 (omega arith),
        r 12 (omega arith),
        r 14 (omega arith),
        r 16 (omega arith),
        r 18 (omega arith),
        r 52 (omega arith),
      )

  front_same : front s ≡ front t
  unfolding front marks_wrong
  front_same =
      rw (
        le-ltb (length s) shortest_header (omega arith),
        le-ltb (length t) shortest_header (omega arith),
        le-ltb (length s) (header_width (job_of s).edition) (omega (arith, header_most (job_of s).edition)),
        le-ltb (length t) (header_width (job_of t).edition) (omega (arith, header_most (job_of t).edition)),
        job_same,
        r 2 (omega arith),
        r 54 (omega arith),
      )

read_beginning : (n : ℕ) (s : List ℕ) (at : ℕ) → at + 1 < n → u16_at (take n s) at ≡ u16_at s at
unfolding u16_at
read_beginning n s at h = ap₂ (λ (a b : ℕ). a + 256 * b) (get_or-take n s at 0 (omega arith)) (get_or-take n s (at + 1) 0 h)

-- what is shown of any input is what is shown of its first bytes, if these are more than any job has
pub shown_beginning : (n : ℕ) (s : List ℕ) → input_most ≤ n → shown (take n s) ≡ shown s
shown_beginning n s room =
    elim (dec_le (length s) n) [
      | yes h ↦ ap shown (take_all n s h)
      | no h ↦
          let begun = take n s in
          let l : length begun ≡ n = length-take-le n s (omega arith) in
          let e = front_same begun s (omega arith) (omega arith) (λ at b. read_beginning n s at (omega arith)) in
          shown_long begun (omega arith)
          ∙ ap (λ (v : Verdict). refused_text (number (v then Err LayoutDisagrees)) (place (v then Err LayoutDisagrees))) e
          ∙ sym (shown_long s (omega arith))
    ]

-- so the text of what was read is that of the whole input
pub input_shown :
    (buffer : List ℕ) (n : ℕ) {before after : List ℕ} {r : ℕ} → input_most ≤ length buffer → Written (shown (take n buffer)) before after r
    → ShowsInput buffer n before after r
input_shown buffer n {before} {after} {r} room w input e =
    subst (λ (text : List ℕ). Written text before after r) (ap shown (sym e) ∙ shown_beginning (length buffer) input room) w
