-- The written start, or what timed facts leave.
use mathlib.Core.Path.{ap, ◌∙◌}
use native.Mathlib.Omega.{arith}
use Rattle.job.specs.Model.{view}
use Rattle.orders.specs.Windows.{limit_of}
use Rattle.windows.specs.Loops.{fixed_start}
use Rattle.windows.proofs.Latest.{limits_bounded}
use Rattle.windows.proofs.window.limits.Goals as goal

pub fix_starts-requires : goal.fix_starts-requires
unfolding limit_of
fix_starts-requires c = let p = c.requires in (p.0, p.1.1.size)

pub shape_of-at : goal.shape_of-at
unfolding limit_of
shape_of-at c =
    let p = c.requires in
    omega (arith, c.fix_starts.ensures.size, p.1.1.size)

pub returns : goal.returns
unfolding limit_of
returns c =
    let w = c.fix_starts.ensures in
    let p = c.requires in
    let m = view c.args.job.head c.args.job.bytes.now in
    record { limits = λ x l k h. w.each k h ∙ ap (λ v. fixed_start m v k) (l.each k h); bounded = limits_bounded _ _ _ _ p.0 p.1.1 w }
