-- What `show` prints of a job, as a function of the job's bytes: "A small job, and edges".
use Rattle.std.specs.Prelude.{ℕ, ◌+◌, ◌*◌, cond, ◌≡◌, List, [], ◌++◌, eqb, length, take}
use Rattle.verdict.specs.Verdict.{number, place}
use Rattle.job.specs.Layout.{serial_mark, longest_header, fact_width, level_width, step_width, condition_width, effect_width, use_width}
use Rattle.job.specs.Layout.{goal_width, timed_width, need_width}
use Rattle.job.specs.Layout.{most_facts, most_levels, most_steps, most_conditions, most_effects, most_uses, most_goals, most_timed, most_needs}
use Rattle.validity.specs.Checks.{job_check}
use Rattle.order_file.specs.Contents.{step_limit, order_limit}
use Rattle.sheet.specs.Text.{ignored_line, sheet_text, refused_text, ignored_most, sheet_most}
use Rattle.text.specs.Put.{Written}
use Rattle.partialize.specs.Partialization.{loose_of, accepts}

-- the line before an accepted job's first line, if it has the serial mark
unfoldable pub mark_line : List ℕ → List ℕ
mark_line s = cond (eqb (serial_mark s) 1) ignored_line []

-- that line and the sheet of its order file, or the refusal of the job check
unfoldable pub shown : List ℕ → List ℕ
shown s = cond (accepts s) (mark_line s ++ sheet_text (loose_of s)) (refused_text (number (job_check s)) (place (job_check s)))

-- the most bytes of it
abbrev pub most_text : ℕ
most_text = ignored_most + sheet_most step_limit order_limit

-- the longest job, with every table at its highest count
abbrev pub most_job : ℕ
most_job =
    longest_header + fact_width * most_facts + level_width * most_levels + step_width * most_steps + condition_width * most_conditions
    + effect_width * most_effects + use_width * most_uses + goal_width * most_goals + timed_width * most_timed
    + need_width * most_needs

-- as much of any input decides what is shown of it
abbrev pub input_most : ℕ
input_most = most_job + 1

-- the text of whatever input was read into a buffer, n bytes, to its own end or to the buffer's
abbrev pub ShowsInput : List ℕ → ℕ → List ℕ → List ℕ → ℕ → Type 0
ShowsInput buffer n before after r =
    (input : List ℕ) → take (length buffer) input ≡ take n buffer → Written (shown input) before after r
