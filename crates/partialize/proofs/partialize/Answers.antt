-- Refusals 1 to 6, then the planned starts.
use mathlib.Core.Path.{sym}
use native.Mathlib.Omega.{arith}
use lib.Seq.{length-take-le}
use Rattle.partialize.proofs.Promised.{handed, refused_promise}
use Rattle.partialize.proofs.partialize.Goals as goal

pub returns-in_err-head : goal.returns-in_err-head
returns-in_err-head c = rw (handed _ c.from_residual.ensures.1) (refused_promise _ _ _ c.in_err-head.ensures.refused)

pub planned_starts-starts-requires : goal.planned_starts-starts-requires
planned_starts-starts-requires c = c.in_ok-head.ensures.ranged.step_count

pub slice_bounds-starts-end : goal.slice_bounds-starts-end
slice_bounds-starts-end c = omega (arith, c.in_ok-head.ensures.ranged.step_count, c.planned_starts-starts.ensures.0)

pub slice_bounds-loosen-end : goal.slice_bounds-loosen-end
slice_bounds-loosen-end c =
    sym (length-take-le _ _ (omega (arith, c.in_ok-head.ensures.ranged.step_count, c.planned_starts-starts.ensures.0)))

pub loosen-requires : goal.loosen-requires
loosen-requires c =
    let f = c.in_ok-head.ensures in
    record { read = f.read; ranged = f.ranged; laid = f.laid; written = c.planned_starts-starts.ensures.1 }
