-- The step that supports the goal is lowered, unless a test of the code keeps it.
use Prim.Native.Nat.{◌-◌, min}
use mathlib.Core.Path.{ap, ◌∙◌}
use borrow.Author.Tests.{ltb-true}
use lib.ListN.{length-set}
use Rattle.laws.proofs.Search.{and_l, and_r}
use Rattle.links.proofs.LinkList.{goal_link_lem}
use Rattle.windows.proofs.Latest.{deadline_low, latest_same, latest_set}
use native.Mathlib.Omega.{arith}
use Rattle.windows.proofs.window.lower_latest.Goals as goal

pub overflow_cast-allowed : goal.overflow_cast-allowed
overflow_cast-allowed c =
    let p = c.requires in
    omega (arith, c.saturating_sub-allowed.ensures, deadline_low p.0.form _ p.1 (ap (λ n. n.deadline) c.goal-goal.ensures))

pub bounds-at-k : goal.bounds-at-k
bounds-at-k c =
    let within = ltb-true c.effect_step-k.result c.args.job.head.count.steps (search (and_l, and_r, c.if-deadline-link.true)) in
    omega (arith, within, c.requires.0.form.step_count)

pub bounds-at-k-then-deadline-link : goal.bounds-at-k-then-deadline-link
bounds-at-k-then-deadline-link c =
    let within = ltb-true c.effect_step-k.result c.args.job.head.count.steps (search (and_l, and_r, c.if-deadline-link.true)) in
    omega (arith, within, c.requires.0.form.step_count)

pub shape_of-at : goal.shape_of-at
shape_of-at c = length-set c.args.at.now c.effect_step-k.result c.min.result

pub returns-then-deadline-link : goal.returns-then-deadline-link
returns-then-deadline-link c =
    let p = c.requires in
    let within = ltb-true c.effect_step-k.result c.args.job.head.count.steps (search (and_l, and_r, c.if-deadline-link.true)) in
    record {
      size = simp length-set p.0.size;
      goal = λ x l w.
          latest_set _ x p.0.form _ _ w (ap (λ n. n.deadline) c.goal-goal.ensures) (goal_link_lem _ _ _ l _ p.1) c.effect_step-k.ensures
          c.step_fixed.ensures _ c.if-deadline-link.true
          (omega (arith, within, p.0.form.step_count, p.0.size))
          (c.min.ensures ∙ ap (min _) (c.saturating_sub-allowed.ensures ∙ ap (◌-◌ _) c.effect_at.ensures.0));
    }

pub returns-else-deadline-link : goal.returns-else-deadline-link
returns-else-deadline-link c =
    let p = c.requires in
    record {
      size = p.0.size;
      goal = λ x l w.
          latest_same _ x p.0.form _ _ w (ap (λ n. n.deadline) c.goal-goal.ensures) (goal_link_lem _ _ _ l _ p.1) c.effect_step-k.ensures
          c.step_fixed.ensures c.if-deadline-link.false;
    }
