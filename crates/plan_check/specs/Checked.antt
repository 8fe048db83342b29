-- Between crates: the first line of a plan that names no action or has another duration, and where the actions stand.
use Rattle.std.specs.Prelude.{ℕ, ◌+◌, ◌*◌, ◌/◌, ◌≤◌, ◌<◌, ◌≡◌, true, false, List, Option, Some, None, length, get_or}
use Rattle.notes.specs.Notes.{line_in, items_in}
use Rattle.supplied.specs.Plan.{Line, lines_of, differs}
use Rattle.job_notes.specs.Resolved.{no_line, Acting}

-- line s of a plan, and how many there are
abbrev pub line_at : List ℕ → List ℕ → ℕ → Line
line_at plan lines s = get_or (lines_of (items_in plan lines)) s no_line

-- a line is the first that differs
pub record Differing (text said plan lines : List ℕ) (r : ℕ) : Type 0 where
  pub count : length (lines_of (items_in plan lines)) ≡ length lines / 3
  pub within : r < length (lines_of (items_in plan lines))
  pub same : (s : ℕ) → s < r → differs (items_in text said) (line_at plan lines s) ≡ false
  pub differs : differs (items_in text said) (line_at plan lines r) ≡ true
  pub line : (line_at plan lines r).line ≡ line_in (get_or lines (3 * r + 1) 0)

-- none does
pub record Agreeing (text said plan lines acts : List ℕ) : Type 0 where
  pub count : length (lines_of (items_in plan lines)) ≡ length lines / 3
  pub same : (s : ℕ) → s < length (lines_of (items_in plan lines)) → differs (items_in text said) (line_at plan lines s) ≡ false
  pub acting : length (lines_of (items_in plan lines)) ≤ 64 → Acting (items_in text said) (lines_of (items_in plan lines)) acts

abbrev pub Checked : (text said plan lines acts : List ℕ) → Option ℕ → Type 0
Checked text said plan lines acts (Some r) = Differing text said plan lines r
Checked text said plan lines acts None = Agreeing text said plan lines acts
