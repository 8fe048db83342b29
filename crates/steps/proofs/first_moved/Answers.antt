-- A search for the lowest that breaks the rule.
use Rattle.laws.proofs.Search.{lowest_start, lowest_more, first_found, first_none}
use Rattle.validity.specs.Checks.{moved}
use Rattle.steps.proofs.first_moved.Goals as goal

pub loop-k-init : goal.loop-k-init
loop-k-init c = lowest_start _

pub returns-then-moved : goal.returns-then-moved
returns-then-moved c = first_found _ _ _ c.loop-k.invariant c.loop-k-test.true c.moved.ensures c.if-moved.true

pub loop-k-preserved : goal.loop-k-preserved
loop-k-preserved c = lowest_more _ _ c.loop-k.invariant c.moved.ensures c.if-moved.false

pub returns : goal.returns
returns c = first_none _ _ _ c.loop-k.invariant c.loop-k.auto.k-end c.loop-k-test.false
