-- A job that still has a serial mark is read as if the mark were 0. Of the checks and of what is filed, refusal 3 alone reads the mark, and
-- takes 0 and 1 alike; all else is read before it or past it.
use Prim.Native.Nat.{ℕ, zero, suc, ◌+◌, ◌*◌, ◌≤◌}
use mathlib.Core.Path.{◌≡◌, ap, ap₂, ◌∙◌}
use mathlib.Core.Bool.{Bool, true, false, cond}
use mathlib.Core.List.{List}
use native.Mathlib.Omega.{arith}
use borrow.Author.Tests.{le-ltb}
use lib.Dec.{eqb}
use Rattle.little_endian.specs.Bytes.{byte_at, u16_at, u32_at, biased_at}
use Rattle.verdict.specs.Verdict.{Verdict, ◌then◌}
use Rattle.job.specs.declared.layout.Counts.{Counts}
use Rattle.job.specs.declared.layout.Job.{Job}
use Rattle.job.specs.Layout.{timed_edition, needs_edition, header_width, serial_mark, counts_of, table_at, positions_of, job_of}
use Rattle.job.specs.Model.{Model, view, model_of}
use Rattle.job.specs.Clocked.{clocked}
use Rattle.header_check.specs.Header.{marks_wrong, layout_agrees, header_check}
use Rattle.record_check.specs.Records.{record_check}
use Rattle.against.specs.Against.{step_check}
use Rattle.against.specs.Clock.{timed_check}
use Rattle.form.specs.Refusals.{form_check}
use Rattle.validity.specs.Ticks.{planned}
use Rattle.validity.specs.Checks.{timing_check, starts_check, job_check, schedule_check}
use Rattle.orders.specs.File.{file_of}
use Rattle.orders.specs.Marked.{MarkAlone, AnsweredAlike}

-- a place past the mark, and every table's is one
further : (at n : ℕ) → 4 ≤ at → 4 ≤ at + n
further at n h = omega arith

least_past : (b : Bool) {n k : ℕ} → 4 ≤ n → 4 ≤ k → 4 ≤ cond b n k
least_past true h g = h
least_past false h g = g

header_past : (edition : ℕ) → 4 ≤ header_width edition
unfolding header_width
header_past edition =
    least_past (eqb edition needs_edition) (omega arith) (least_past (eqb edition timed_edition) (omega arith) (omega arith))

table_past : (edition : ℕ) (c : Counts) (t : ℕ) → 4 ≤ table_at (header_width edition) c t
unfolding table_at
table_past edition c zero = header_past edition
table_past edition c (suc t) = further _ _ (table_past edition c t)

-- what is read of two such files: their numbers past the mark, their headers but for it, their records
module _ (s t : List ℕ) (alone : MarkAlone s t) where
  byte_past : (at : ℕ) → 4 ≤ at → byte_at s at ≡ byte_at t at
  byte_past at h = alone.rest at (λ e. omega arith) (λ e. omega arith)

  u16_past : (at : ℕ) → 4 ≤ at → u16_at s at ≡ u16_at t at
  unfolding u16_at
  u16_past at h = ap₂ (λ (a b : ℕ). a + 256 * b) (byte_past at h) (byte_past (at + 1) (omega arith))

  u32_past : (at : ℕ) → 4 ≤ at → u32_at s at ≡ u32_at t at
  unfolding u32_at
  u32_past at h = ap₂ (λ (a b : ℕ). a + 65536 * b) (u16_past at h) (u16_past (at + 2) (omega arith))

  biased_past : (at : ℕ) → 4 ≤ at → biased_at s at ≡ biased_at t at
  unfolding biased_at
  biased_past at h = rw (u32_past at h)

  edition_same : u16_at s 0 ≡ u16_at t 0
  unfolding u16_at
  edition_same =
      ap₂ (λ (a b : ℕ). a + 256 * b) (alone.rest 0 (λ e. omega arith) (λ e. omega arith)) (alone.rest 1 (λ e. omega arith) (λ e. omega arith))

  job_same : job_of s ≡ job_of t
  unfolding job_of counts_of
  job_same =
      cc (
        edition_same,
        u16_past 4 (omega arith),
        u16_past 6 (omega arith),
        u16_past 8 (omega arith),
        u16_past 10 (omega arith),
        u16_past 12 (omega arith),
        u16_past 14 (omega arith),
        u16_past 16 (omega arith),
        u16_past 18 (omega arith),
        u16_past 52 (omega arith),
      )

  model_same : model_of s ≡ model_of t
  unfolding job_of positions_of
  model_same =
      let e : model_of s ≡ view (job_of s) t = simp (byte_past, u16_past, u32_past, biased_past, further, table_past) in
      e ∙ ap (λ (j : Job). view j t) job_same

  header_same : header_check s ≡ header_check t
  unfolding header_check marks_wrong layout_agrees
  header_same =
      rw (
        alone.size,
        le-ltb 1 (serial_mark s) alone.mark,
        le-ltb 1 (serial_mark t) alone.other,
        job_same,
        u16_past 54 (omega arith),
        u32_past 20 (omega arith),
        u32_past 24 (omega arith),
        u32_past 28 (omega arith),
        u32_past 32 (omega arith),
        u32_past 36 (omega arith),
        u32_past 40 (omega arith),
        u32_past 44 (omega arith),
        u32_past 48 (omega arith),
        u32_past 56 (omega arith),
      )

  form_same : form_check s ≡ form_check t
  unfolding form_check
  form_same =
      ap₂ (λ (v : Verdict) (m : Model). v then record_check m then step_check m then timed_check m) header_same model_same

pub mark_ignored : (s t : List ℕ) → MarkAlone s t → AnsweredAlike s t
unfolding job_check schedule_check
mark_ignored s t alone =
    let form = form_same s t alone in
    let model = model_same s t alone in
    record {
      job = ap₂ (λ (v : Verdict) (m : Model). v then timing_check (clocked m) (planned m)) form model;
      timing = λ starts. ap₂ (λ (v : Verdict) (m : Model). v then starts_check (clocked m) starts) form model;
      filed = ap (λ (m : Model). file_of m (planned m)) model;
    }
