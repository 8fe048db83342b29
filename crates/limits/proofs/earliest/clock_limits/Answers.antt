-- By timed facts, then by links.
use native.Mathlib.Omega.{arith}
use Rattle.limits.proofs.Raised.{links_named, limits_are}
use Rattle.limits.proofs.earliest.clock_limits.Goals as goal

pub raise_timed-requires : goal.raise_timed-requires
raise_timed-requires c = let p = c.requires in (p.0, p.2, p.3.size)

pub raise_supported-requires : goal.raise_supported-requires
raise_supported-requires c =
    let p = c.requires in
    (p.0.form, links_named p.0 p.1, p.2, omega (arith, c.raise_timed.ensures.size, p.3.size))

pub returns : goal.returns
returns c =
    let p = c.requires in
    limits_are p.0 p.1 p.3 c.raise_timed.ensures c.raise_supported.ensures
