-- The list is changed one by one.
use mathlib.Core.Path.{ap, ◌∙◌}
use Rattle.job.specs.Model.{view}
use Rattle.laws.proofs.Listed.{filled_start, filled_more, filled_end}
use Rattle.windows.specs.Loops.{fixed_start}
use native.Mathlib.Omega.{arith}
use Rattle.windows.proofs.window.fix_starts.Goals as goal

pub loop-k-init : goal.loop-k-init
loop-k-init c = filled_start _ _

pub bounds-at-k : goal.bounds-at-k
bounds-at-k c =
    let p = c.requires in
    omega (arith, c.loop-k-test.true, p.0.step_count, p.1, c.loop-k.invariant.size)

pub bounds-at-k-in-loop-k : goal.bounds-at-k-in-loop-k
bounds-at-k-in-loop-k c =
    let p = c.requires in
    omega (arith, c.loop-k-test.true, p.0.step_count, p.1, c.loop-k.invariant.size)

pub loop-k-preserved : goal.loop-k-preserved
loop-k-preserved c =
    let p = c.requires in
    let i = c.loop-k.invariant in
    let k = c.loop-k.k in
    let m = view c.args.job.head c.args.job.bytes.now in
    filled_more _ _ _ _ _ (omega (arith, c.loop-k-test.true, p.0.step_count, p.1)) i
    (c.fixed_start.ensures ∙ ap (λ v. fixed_start m v k) (i.rest k (omega arith)))

pub shape_of-at : goal.shape_of-at
shape_of-at c = c.loop-k.invariant.size

pub returns : goal.returns
returns c =
    let v = c.loop-k.invariant in
    let p = c.requires in
    record { size = v.size ∙ p.1; each = (filled_end _ _ _ _ _ v c.loop-k.auto.k-end c.loop-k-test.false).below }
