-- Fact by fact.
use borrow.Author.Rules.{rules}
use Rattle.links.proofs.Linking.{below_more}
use Rattle.links.proofs.support.link_conditions.Goals as goal

pub loop-fact-preserved : goal.loop-fact-preserved
loop-fact-preserved c =
    let i = c.loop-fact.invariant in
    (i.0, search (rules, i.1), below_more i.2 c.link_fact.ensures)
