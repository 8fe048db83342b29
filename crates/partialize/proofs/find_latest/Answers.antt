-- What timed facts leave, then written starts and deadlines.
use native.Mathlib.Omega.{arith}
use Rattle.partialize.proofs.find_latest.Goals as goal

pub clock_latest-requires : goal.clock_latest-requires
clock_latest-requires c = let p = c.requires in (p.0, p.2, p.3)

pub latest_starts-requires : goal.latest_starts-requires
latest_starts-requires c =
    let p = c.requires in
    (p.0.form, p.1.room, c.clock_latest.ensures.size)

pub shape_of-latest : goal.shape_of-latest
shape_of-latest c =
    let p = c.requires in
    omega (arith, c.latest_starts.ensures.at_len, p.3.size)

pub returns : goal.returns
returns c =
    let late = c.latest_starts.ensures in
    let p = c.requires in
    record { size = late.at_len; each = late.latest_starts _ p.1.linked c.clock_latest.ensures }
