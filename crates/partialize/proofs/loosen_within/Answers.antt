-- The points in order, then the check and the file.
use native.Mathlib.Omega.{arith}
use Rattle.partialize.proofs.loosen_within.Goals as goal

pub list_points-requires : goal.list_points-requires
list_points-requires g c =
    let p = c.requires in (
      p.0.ranged,
      record { listed = omega (arith, p.1.listed); sorted = omega (arith, p.1.listed); grouped = omega (arith, p.1.grouped) },
      p.0.laid,
    )

pub loosen_ordered-requires : goal.loosen_ordered-requires
loosen_ordered-requires g c =
    let p = c.requires.0 in
    record { read = p.read; written = p.written; known = c.list_points.ensures }
