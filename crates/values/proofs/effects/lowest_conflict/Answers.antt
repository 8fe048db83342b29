-- A search for the lowest that conflicts.
use native.Mathlib.Omega.{arith}
use Rattle.laws.proofs.Search.{lowest_start, lowest_more, first_found, none_is}
use Rattle.job.specs.Model.{view}
use Rattle.validity.specs.Ticks.{schedule_of}
use Rattle.values.proofs.Conflicts.{no_step_conflicts}
use Rattle.values.proofs.effects.lowest_conflict.Goals as goal

pub loop-e-init : goal.loop-e-init
loop-e-init c = lowest_start _

pub conflicts-requires : goal.conflicts-requires
conflicts-requires c = let p = c.requires in (p.0, p.1, c.loop-e-test.true)

pub returns-then-conflicts : goal.returns-then-conflicts
returns-then-conflicts c =
    first_found _ _ _ c.loop-e.invariant (omega (arith, c.loop-e-test.true)) c.conflicts.ensures
    c.if-conflicts.true

pub loop-e-preserved : goal.loop-e-preserved
loop-e-preserved c = lowest_more _ _ c.loop-e.invariant c.conflicts.ensures c.if-conflicts.false

pub returns : goal.returns
returns c =
    let a = c.args in
    let loop = c.loop-e in
    none_is _ _ _ (no_step_conflicts (view a.timeline.job.head a.timeline.job.bytes.now) (schedule_of a.timeline.starts.now) loop.e loop.invariant c.loop-e-test.false) (omega arith)
