-- Each fact in turn.
use mathlib.Core.Path.{refl}
use native.Mathlib.Omega.{arith}
use Rattle.validity.specs.Ticks.{schedule_of}
use Rattle.points.proofs.Placed.{placed_apart}
use Rattle.origins.specs.declared.Turn.TheVariants.{Other}
use Rattle.origins.proofs.Reached.{within_up, within_all}
use Rattle.gaps.proofs.Rules.{given_points, opposing_known, opposing_raised}
use Rattle.gaps.proofs.fill.fill_opposing.Goals as goal

pub raise_setters-requires : goal.raise_setters-requires
raise_setters-requires c = (
  c.loop-f.invariant.whole c.requires.2,
  c.requires.1.form.step_count,
  rw (c.begin_at-low.ensures.0, c.begin_at-high.ensures.0) (opposing_known c.requires.1 c.requires.3 _ c.loop-f-test.true),
  rw (c.begin_at-low.ensures.0, c.begin_at-high.ensures.0)
      (placed_apart c.requires.1.known _ c.loop-f-test.true c.requires.1.one),
)

pub loop-f-preserved : goal.loop-f-preserved
loop-f-preserved c =
    let a = c.args in
    within_up _ _ _ _ _ _ _ (omega arith) c.loop-f.invariant
    (given_points _ (schedule_of a.timeline.starts.now) a.timeline.points.now _ _ Other c.begin_at-low.ensures.0 c.begin_at-high.ensures.0
    c.raise_setters.ensures)

pub returns : goal.returns
returns c s known =
    opposing_raised known _ _ (within_all _ _ _ _ _ _ _ _ refl (omega (arith, c.loop-f.auto.f-end, c.loop-f-test.false)) c.loop-f.invariant)
