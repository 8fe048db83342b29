-- Goal by goal.
use native.Mathlib.Omega.{arith}
use Rattle.links.proofs.Putting.{links_room}
use Rattle.links.proofs.Linking.{goals_more}
use Rattle.links.proofs.support.link_goals.Goals as goal

pub loop-g-preserved : goal.loop-g-preserved
loop-g-preserved c =
    let i = c.loop-g.invariant in
    (i.0, goals_more _ (omega (arith, (links_room i.0 i.1).room, c.loop-g-test.true)) c.goal_link.ensures i.1)
