-- Where no fact is mixed, nothing conflicts.
use native.Mathlib.Omega.{arith}
use Rattle.laws.proofs.Search.{none_is}
use Rattle.job.specs.Clocked.{clocked}
use Rattle.job.specs.Model.{view}
use Rattle.job.proofs.Clocked.{clocked_form}
use Rattle.validity.specs.Ticks.{schedule_of}
use Rattle.values.proofs.Conflicts.{facts_listed, unmixed_one, one_value_lowest}
use Rattle.values.proofs.effects.first_conflict.Goals as goal

pub any_mixed-requires : goal.any_mixed-requires
any_mixed-requires c = facts_listed c.requires.1

pub lowest_conflict-requires : goal.lowest_conflict-requires
lowest_conflict-requires c = c.requires

pub returns-then-any_mixed : goal.returns-then-any_mixed
returns-then-any_mixed c = c.lowest_conflict.ensures

pub returns-else-any_mixed : goal.returns-else-any_mixed
returns-else-any_mixed c =
    let m = view c.args.timeline.job.head c.args.timeline.job.bytes.now in
    let p = c.requires in
    none_is _ _ _
    (one_value_lowest (clocked m) (schedule_of c.args.timeline.starts.now)
    (unmixed_one p.1 (clocked_form m p.0).effect_fact (c.any_mixed.ensures c.if-any_mixed.false))) (omega arith)
