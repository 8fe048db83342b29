-- Between crates: what a job's file asks for to be written.
use Rattle.std.specs.Prelude.{ℕ, ◌≤◌, ◌≡◌, false, List, length}
use Rattle.job.specs.declared.layout.Counts.{Counts}
use Rattle.job.specs.Layout.{count_too_high}
use Rattle.job_encoding.specs.Encode.{counts_in}
use Rattle.supplied.specs.Job.{model_in}
use Rattle.job_from_notes.specs.Counted.{tables_in, Walked}

-- the bytes of the longest job
abbrev pub longest_job : ℕ
longest_job = 16752

-- notes whose tables have these counts, none above its highest, and bytes that are long enough for any job
pub record Writable (said numbers plan acts : List ℕ) (count : Counts) (out : List ℕ) : Type 0 where
  pub walked : Walked said plan acts
  pub numbered : length said ≤ length numbers
  pub counted : count ≡ counts_in (model_in (tables_in count.facts count.levels said numbers plan acts))
  pub low : count_too_high count ≡ false
  pub room : longest_job ≤ length out
