-- The points in the order of their ticks, then the refusals.
use native.Mathlib.Omega.{arith}
use Rattle.schedule.proofs.Reading.{read_in_range, read_lies}
use Rattle.schedule.proofs.check_within.Goals as goal

pub list_points-requires : goal.list_points-requires
list_points-requires g c =
    let p = c.requires in
    (read_in_range p.0, record { listed = omega (arith, p.1.listed); sorted = omega (arith, p.1.listed); grouped = omega (arith, p.1.grouped) }, read_lies p.0)

pub check_ordered-requires : goal.check_ordered-requires
check_ordered-requires g c = record { read = c.requires.0; known = c.list_points.ensures }
