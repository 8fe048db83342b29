-- Goal by goal, up to the first that fails.
use Rattle.laws.proofs.Search.{lowest_start, lowest_more, first_found, first_none}
use Rattle.goals.proofs.first_missed.Goals as goal

pub loop-g-init : goal.loop-g-init
loop-g-init c x known one = lowest_start _

pub goal_fails-requires : goal.goal_fails-requires
goal_fails-requires c = (c.requires, c.loop-g-test.true)

pub returns-then-goal_fails : goal.returns-then-goal_fails
returns-then-goal_fails c x known one =
    first_found _ _ _ (c.loop-g.invariant x known one) c.loop-g-test.true (c.goal_fails.ensures x known one) c.if-goal_fails.true

pub loop-g-preserved : goal.loop-g-preserved
loop-g-preserved c x known one = lowest_more _ _ (c.loop-g.invariant x known one) (c.goal_fails.ensures x known one) c.if-goal_fails.false

pub returns : goal.returns
returns c x known one = first_none _ _ _ (c.loop-g.invariant x known one) c.loop-g.auto.g-end c.loop-g-test.false
