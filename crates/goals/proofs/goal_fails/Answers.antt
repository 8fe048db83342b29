-- By the initial value, the last value, or the run that ends with it.
use mathlib.Core.Path.{sym, ap, ◌∙◌}
use native.Mathlib.Omega.{arith}
use Rattle.goals.proofs.GoalRuns.{goal_read, goal_group_ends, goal_unset, goal_unseen, goal_by_run}
use Rattle.goals.proofs.goal_fails.Goals as goal

pub begin_at-low-requires : goal.begin_at-low-requires
begin_at-low-requires c =
    let p = c.requires in
    omega (arith, p.0.known.1.room, ap (λ g. g.fact) c.goal-goal.ensures, p.0.form.goal_fact _ p.1)

pub begin_at-high-requires : goal.begin_at-high-requires
begin_at-high-requires c =
    let p = c.requires in
    omega (arith, p.0.known.1.room, ap (λ g. g.fact) c.goal-goal.ensures, p.0.form.goal_fact _ p.1)

pub returns-then-high-low : goal.returns-then-high-low
returns-then-high-low c =
    let p = c.requires in
    let goal = c.goal-goal.ensures in
    let read = goal_read (ap (λ g. g.fact) goal) (ap (λ g. g.value) goal)
    c.begin_at-low.ensures.0 c.begin_at-high.ensures.0 c.fact_initial.ensures in
    goal_unset p.0 p.1 read c.if-high-low.true

pub bounds-points-high : goal.bounds-points-high
bounds-points-high c =
    let p = c.requires in
    let goal = c.goal-goal.ensures in
    let read = goal_read (ap (λ g. g.fact) goal) (ap (λ g. g.value) goal)
    c.begin_at-low.ensures.0 c.begin_at-high.ensures.0 c.fact_initial.ensures in
    omega (arith, c.if-high-low.false, goal_group_ends p.0 p.1 read)

pub returns-then-value_of-value : goal.returns-then-value_of-value
returns-then-value_of-value c =
    let p = c.requires in
    let goal = c.goal-goal.ensures in
    let read = goal_read (ap (λ g. g.fact) goal) (ap (λ g. g.value) goal)
    c.begin_at-low.ensures.0 c.begin_at-high.ensures.0 c.fact_initial.ensures in
    goal_unseen p.0 p.1 read (omega (arith, c.if-high-low.false)) (λ e. c.if-value_of-value.true (c.value_of.ensures.0 ∙ e))

pub late-requires : goal.late-requires
late-requires c =
    let p = c.requires in
    let goal = c.goal-goal.ensures in
    let read = goal_read (ap (λ g. g.fact) goal) (ap (λ g. g.value) goal)
    c.begin_at-low.ensures.0 c.begin_at-high.ensures.0 c.fact_initial.ensures in
    (omega (arith, c.if-high-low.false), goal_group_ends p.0 p.1 read)

pub returns : goal.returns
returns c =
    let p = c.requires in
    let goal = c.goal-goal.ensures in
    let read = goal_read (ap (λ g. g.fact) goal) (ap (λ g. g.value) goal)
    c.begin_at-low.ensures.0 c.begin_at-high.ensures.0 c.fact_initial.ensures in
    goal_by_run p.0 p.1 read (omega (arith, c.if-high-low.false))
    (sym c.value_of.ensures.0 ∙ c.if-value_of-value.false) (ap (λ g. g.deadline) goal) c.late.ensures
