-- The earliest limit and the latest start of a step. x is the schedule by whose ticks the orders are found.
use Rattle.std.specs.Prelude.{ℕ, ◌-◌, min, max, ◌&&◌, not, cond, eqb}
use Rattle.laws.specs.Fold.{least}
use Rattle.job.specs.Model.{Model}
use Rattle.job.specs.Model.{no_deadline}
use Rattle.order_file.specs.Contents.{initial_state, no_latest, gap_bias}
use Rattle.orders.specs.Links.{goal_link}
use Rattle.orders.specs.Gaps.{support_gap, opposing_gap, condition_gap}

-- the gap by rules 1 to 3 from i to k, one of which is the clock
unfoldable pub clock_gap : Model → (ℕ → ℕ) → ℕ → ℕ → ℕ
clock_gap m x i k = max (max (support_gap m x i k) (opposing_gap m x i k)) (condition_gap m x i k)

-- "a point strictly after tick T gives start ≥ T + 1 − point", and 0 where that is negative: the clock starts at 0
unfoldable pub clock_limit : Model → (ℕ → ℕ) → ℕ → ℕ
clock_limit m x k = clock_gap m x m.steps k - gap_bias

-- "The earliest limit is the written start of a fixed step", else what timed facts leave
unfoldable pub limit_of : Model → (ℕ → ℕ) → ℕ → ℕ
limit_of m x k = cond (eqb (m.fixed k) 1) (m.start k) (clock_limit m x k)

-- "one strictly before gives start ≤ T − point − 1"
unfoldable pub clock_latest : Model → (ℕ → ℕ) → ℕ → ℕ
clock_latest m x k = cond (eqb (clock_gap m x k m.steps) 0) no_latest (gap_bias - clock_gap m x k m.steps)

-- what goal g allows of step k: deadline − at, if it has a deadline and an effect of k supports it; nothing is cut off in a sound job,
-- since the supporter lies at or before the deadline (`goal-link-in-time`)
unfoldable pub allowed : Model → (ℕ → ℕ) → ℕ → ℕ → ℕ
allowed m x k g =
    cond
    (not (eqb (m.goal_deadline g) no_deadline) && not (eqb (goal_link m x g) initial_state)
    && eqb (m.effect_step (goal_link m x g)) k)
    (m.goal_deadline g - m.effect_at (goal_link m x g))
    no_latest

-- "The latest start is the written start of a fixed step, else the least (deadline − at) .., else none"; with timed facts "the tightest counts"
unfoldable pub latest_of : Model → (ℕ → ℕ) → ℕ → ℕ
latest_of m x k =
    cond (eqb (m.fixed k) 1) (m.start k) (min (least m.goals no_latest (allowed m x k)) (clock_latest m x k))
