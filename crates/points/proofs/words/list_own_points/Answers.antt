-- The points of the job whose timed facts are left out.
use Rattle.validity.specs.Ticks.{schedule_of}
use Rattle.points.proofs.Own.{untimed_ranged, untimed_laid, untimed_room, untimed_known}
use Rattle.points.proofs.words.list_own_points.Goals as goal

pub list_points-requires : goal.list_points-requires
list_points-requires c =
    let j = c.args.job.head in
    let s = c.args.job.bytes.now in
    rw c.untimed.ensures (untimed_ranged j s c.requires.0, untimed_room j s c.requires.1, untimed_laid j s c.requires.2)

pub returns : goal.returns
returns c =
    untimed_known c.args.job.head c.args.job.bytes.now (schedule_of c.args.starts.now)
    (rw c.untimed.ensures at c.list_points.ensures)
