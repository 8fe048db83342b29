-- The points of the job of which only the timed facts are left.
use borrow.Author.Rules.{rules}
use Rattle.job.proofs.Ranged.{well_formed_ranged}
use Rattle.validity.specs.Ticks.{schedule_of}
use Rattle.limits.proofs.Known.{only_ranged, only_laid, only_room, only_known}
use Rattle.limits.proofs.timed.list_timed.Goals as goal

pub list_points-requires : goal.list_points-requires
list_points-requires c =
    let j = c.args.job.head in
    let s = c.args.job.bytes.now in
    let w = well_formed_ranged c.requires.0 in
    rw c.only_timed.ensures (only_ranged j s w, only_room j s w (search rules) c.requires.3 c.requires.4, only_laid j s c.requires.1)

pub returns : goal.returns
returns c =
    only_known c.args.job.head c.args.job.bytes.now (schedule_of c.args.starts.now) c.requires.2
    (rw c.only_timed.ensures at c.list_points.ensures)
