-- Inner: lists of links and gaps to be filed, lists that hold what is filed, and the answer and the buffer once it is filed.
use Rattle.std.specs.Prelude.{ℕ, ◌+◌, ◌≤◌, ◌<◌, ◌≡◌, cond, List, length, get_or, leb, Ok, Err}
use Rattle.job.specs.declared.layout.Counts.{Counts}
use Rattle.job.specs.declared.layout.Job.{Job}
use Rattle.job.specs.Layout.{most_steps}
use Rattle.job.specs.Model.{Model, view}
use Rattle.job.specs.Clocked.{clocked}
use Rattle.order_file.specs.Contents.{Contents, link_limit}
use Rattle.order_file.specs.Encode.{encode}
use Rattle.order_file.specs.Table.{row_width, gap_in, start_in, Gaps}
use Rattle.order_file.specs.Held.{NoneBeyond, over}
use Rattle.orders.specs.Links.{condition_link, goal_link, nth_link}
use Rattle.orders.specs.Gaps.{gap_of}
use Rattle.orders.specs.Windows.{limit_of, latest_of}
use Rattle.orders.specs.File.{rounds_of, earliest_of, link_number, file_of}
use Rattle.limits.specs.Timed.{most_limit}
use Rattle.windows.specs.Starts.{Bounded}
use Rattle.gaps.specs.Table.{TableOf}
use Rattle.partialize.specs.Found.{LimitsFound, LatestFound}
use Rattle.partialize.specs.Answer.{Answer}
use Rattle.partialize.specs.declared.answer.Unfiled.TheVariants.{BufferTooShort}

-- lists that hold what is filed of a job, with the numbers of its links
pub record Holds (number : ℕ → ℕ) (m : Model) (x : ℕ → ℕ) (rounds : ℕ) (limits latest earliest gaps linked : List ℕ) : Type 0 where
  pub round_count : rounds ≡ rounds_of m x
  pub limit_at : (k : ℕ) → k < m.steps → start_in limits k ≡ limit_of m x k
  pub latest_at : (k : ℕ) → k < m.steps → start_in latest k ≡ latest_of m x k
  pub earliest_at : (k : ℕ) → k < m.steps → start_in earliest k ≡ earliest_of m x k
  pub gap_at : (i k : ℕ) → i < m.steps → k < m.steps → gap_in gaps i k ≡ gap_of m x i k
  -- no entry for a step that is not counted
  pub empty_at : (i k : ℕ) → i < row_width → k < row_width → (i < m.steps → k < m.steps → ⊥) → gap_in gaps i k ≡ 0
  pub condition_at : (c : ℕ) → c < m.conditions → get_or linked c 0 ≡ number (condition_link m x c)
  pub goal_at : (g : ℕ) → g < m.goals → get_or linked (m.conditions + g) 0 ≡ number (goal_link m x g)

-- what can be filed, by the counts of a job
pub record Fileable (n : Counts) (limits latest links gaps : List ℕ) : Type 0 where
  pub step_count : n.steps ≤ most_steps
  pub link_count : n.conditions + n.goals ≤ link_limit
  pub bounded : Bounded n.steps most_limit limits
  pub late : length latest ≡ row_width
  pub linked : length links ≡ link_limit
  pub table : Gaps gaps
  pub rows : NoneBeyond n.steps gaps

-- the answer and the buffer where contents c are to be filed: the file's length and the file, or 15 and no change
pub record Filing (c : Contents) (before after : List ℕ) (r : Answer) : Type 0 where
  pub answer : r ≡ cond (leb (length (encode c)) (length before)) (Ok (length (encode c))) (Err BufferTooShort)
  pub buffer : after ≡ cond (leb (length (encode c)) (length before)) (over (encode c) before) before

-- what is filed of windows, links and gaps, whatever job and schedule they belong to
abbrev pub FiledOf : Job → List ℕ → List ℕ → List ℕ → List ℕ → List ℕ → List ℕ → Answer → Type 0
FiledOf job limits latest links gaps before after r =
    (s : List ℕ) (x : ℕ → ℕ) → LimitsFound (view job s) x limits → LatestFound (view job s) x latest
    → ((k : ℕ) → k < job.count.conditions + job.count.goals → get_or links k 0 ≡ link_number (view job s) (nth_link (clocked (view job s)) x k))
    → TableOf job.count.steps (gap_of (clocked (view job s)) x) gaps
    → Filing (file_of (view job s) x) before after r
