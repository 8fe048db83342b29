-- By timed facts, from none.
use Rattle.limits.proofs.Lowered.{latest_are}
use Rattle.limits.proofs.latest.clock_latest.Goals as goal

pub lower_timed-requires : goal.lower_timed-requires
lower_timed-requires c = let p = c.requires in (p.0, p.1, p.2.size)

pub returns : goal.returns
returns c =
    let p = c.requires in
    latest_are p.0 p.2 c.lower_timed.ensures
