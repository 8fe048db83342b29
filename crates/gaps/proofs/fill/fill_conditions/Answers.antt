-- Each fact in turn.
use mathlib.Core.Path.{refl}
use native.Mathlib.Omega.{arith}
use Rattle.job.specs.Model.{view}
use Rattle.validity.specs.Ticks.{schedule_of}
use Rattle.origins.proofs.Reached.{within_up, within_all}
use Rattle.gaps.proofs.Rules.{given_known, given_reached, fact_known, conditions_raised}
use Rattle.gaps.proofs.fill.fill_conditions.Goals as goal

pub raise_conditions-requires : goal.raise_conditions-requires
raise_conditions-requires c = (
  given_known c.places_of-fact.ensures (fact_known c.requires.0 c.requires.2 _ c.loop-f-test.true),
  c.loop-f.invariant.whole c.requires.1,
)

pub loop-f-preserved : goal.loop-f-preserved
loop-f-preserved c =
    let a = c.args in
    within_up _ _ _ _ _ _ _ (omega arith) c.loop-f.invariant
    (given_reached c.places_of-fact.ensures _ (view a.timeline.job.head a.timeline.job.bytes.now) (schedule_of a.timeline.starts.now) a.timeline.points.now _ _
    c.raise_conditions.ensures)

pub returns : goal.returns
returns c =
    conditions_raised c.requires.0 _ _ (within_all _ _ _ _ _ _ _ _ refl (omega (arith, c.loop-f.auto.f-end, c.loop-f-test.false)) c.loop-f.invariant)
