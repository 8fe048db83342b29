-- Between crates: files that differ in their serial marks alone, and that each is answered as the other.
use Rattle.std.specs.Prelude.{ℕ, ◌≤◌, ◌≡◌, List, length}
use Rattle.little_endian.specs.Bytes.{byte_at}
use Rattle.job.specs.Layout.{serial_mark}
use Rattle.job.specs.Model.{model_of}
use Rattle.validity.specs.Ticks.{planned}
use Rattle.validity.specs.Checks.{job_check, schedule_check}
use Rattle.orders.specs.File.{file_of}

-- two files that differ in their serial marks alone, and both marks are 0 or 1
pub record MarkAlone (s t : List ℕ) : Type 0 where
  pub size : length s ≡ length t
  pub rest : (at : ℕ) → (at ≡ 2 → ⊥) → (at ≡ 3 → ⊥) → byte_at s at ≡ byte_at t at
  pub mark : serial_mark s ≤ 1
  pub other : serial_mark t ≤ 1

-- the checks answer them alike, and what is filed of them is the same
pub record AnsweredAlike (s t : List ℕ) : Type 0 where
  pub job : job_check s ≡ job_check t
  pub timing : (starts : List ℕ) → schedule_check s starts ≡ schedule_check t starts
  pub filed : file_of (model_of s) (planned (model_of s)) ≡ file_of (model_of t) (planned (model_of t))
