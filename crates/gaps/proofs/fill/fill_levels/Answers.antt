-- Each level in turn.
use mathlib.Core.Path.{refl}
use native.Mathlib.Omega.{arith}
use Rattle.validity.specs.Ticks.{schedule_of}
use Rattle.origins.specs.declared.Turn.TheVariants.{Same}
use Rattle.origins.proofs.Reached.{within_up, within_all}
use Rattle.gaps.proofs.Rules.{given_points, level_known, levels_raised}
use Rattle.gaps.proofs.fill.fill_levels.Goals as goal

pub raise_among-requires : goal.raise_among-requires
raise_among-requires c = (
  c.loop-l.invariant.whole c.requires.2,
  c.requires.1.form.step_count,
  rw (c.begin_at-low.ensures.0, c.begin_at-high.ensures.0) (level_known c.requires.1 c.requires.3 _ c.loop-l-test.true),
)

pub loop-l-preserved : goal.loop-l-preserved
loop-l-preserved c =
    let a = c.args in
    within_up _ _ _ _ _ _ _ (omega arith) c.loop-l.invariant
    (given_points _ (schedule_of a.timeline.starts.now) a.timeline.points.now _ _ Same c.begin_at-low.ensures.0 c.begin_at-high.ensures.0
    c.raise_among.ensures)

pub returns : goal.returns
returns c s known =
    levels_raised known _ _ (within_all _ _ _ _ _ _ _ _ refl (omega (arith, c.loop-l.auto.l-end, c.loop-l-test.false)) c.loop-l.invariant)
