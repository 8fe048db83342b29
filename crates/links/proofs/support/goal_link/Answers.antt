-- All setters of the goal's fact lie before the tick after all.
use mathlib.Core.Path.{ap, ◌∙◌}
use Rattle.links.proofs.Supported.{goal_some, goal_is}
use Rattle.links.proofs.support.goal_link.Goals as goal

pub run_link-requires : goal.run_link-requires
run_link-requires c =
    let pre = c.requires in
    let goal = c.goal-goal.ensures in
    goal_some pre.1.1 pre.0 pre.1.2 _ pre.2 (ap (λ g. g.fact) goal) (ap (λ g. g.value) goal) c.fact_initial.ensures
    c.begin_at-low.ensures.0 c.begin_at-high.ensures.0 c.last_run-run.ensures

pub returns : goal.returns
returns c x known valid =
    let pre = c.requires in
    let goal = c.goal-goal.ensures in
    c.run_link.ensures
    ∙ goal_is known pre.0 valid _ pre.2 (ap (λ g. g.fact) goal) (ap (λ g. g.value) goal) c.fact_initial.ensures
    c.begin_at-low.ensures.0 c.begin_at-high.ensures.0
    c.last_run-run.ensures
