-- What timed facts leave, then written starts.
use native.Mathlib.Omega.{arith}
use Rattle.partialize.proofs.find_limits.Goals as goal

pub clock_limits-requires : goal.clock_limits-requires
clock_limits-requires c = c.requires

pub limits-requires : goal.limits-requires
limits-requires c = (c.requires.0.form, (_, c.clock_limits.ensures))

pub shape_of-limits : goal.shape_of-limits
shape_of-limits c =
    let p = c.requires in
    omega (arith, c.limits.ensures.bounded.size, p.3.size)

pub returns : goal.returns
returns c =
    let limited = c.limits.ensures in
    record { bounded = limited.bounded; each = limited.limits _ c.clock_limits.ensures }
