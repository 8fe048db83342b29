-- Fact by fact: every condition is on one of them.
use native.Mathlib.Omega.{arith}
use Rattle.job.specs.Clocked.{clocked}
use Rattle.job.specs.Model.{view}
use Rattle.laws.proofs.Noted.{noted_start, noted_lowest}
use Rattle.laws.proofs.Search.{first_is, none_is}
use Rattle.values.proofs.Walked.{fact_more}
use Rattle.values.proofs.conditions.first_contested.Goals as goal

pub loop-fact-init : goal.loop-fact-init
loop-fact-init c = noted_start _ (λ k l. omega arith)

pub contested_of-requires : goal.contested_of-requires
contested_of-requires c = (c.requires, c.loop-fact-test.true)

pub loop-fact-preserved : goal.loop-fact-preserved
loop-fact-preserved c =
    fact_more (clocked (view c.args.timeline.job.head
    c.args.timeline.job.bytes.now)) c.min-best.ensures
    c.loop-fact.invariant c.contested_of.ensures

pub returns-then-best-n : goal.returns-then-best-n
returns-then-best-n c =
    first_is _ _ _ (noted_lowest c.loop-fact.invariant (λ k l. omega (arith, c.requires.form.condition_fact k l, c.loop-fact-test.false)))
    c.if-best-n.true

pub returns-else-best-n : goal.returns-else-best-n
returns-else-best-n c =
    none_is _ _ _ (noted_lowest c.loop-fact.invariant (λ k l. omega (arith, c.requires.form.condition_fact k l, c.loop-fact-test.false)))
    c.if-best-n.false
