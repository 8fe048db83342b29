-- One goal after the other lowers what it bounds.
use mathlib.Core.Path.{sym, ◌∙◌}
use Rattle.windows.proofs.Latest.{latest_none, latest_all}
use Rattle.windows.proofs.window.latest_starts.Goals as goal

pub fix_starts-requires : goal.fix_starts-requires
fix_starts-requires c = let p = c.requires in (p.0, p.2)

pub loop-g-init : goal.loop-g-init
loop-g-init c = (c.fix_starts.ensures.size, λ x l w. w)

pub lower_latest-requires : goal.lower_latest-requires
lower_latest-requires c =
    let p = c.requires in
    (record { form = p.0; room = p.1; size = c.loop-g.invariant.0 }, c.loop-g-test.true)

pub loop-g-preserved : goal.loop-g-preserved
loop-g-preserved c =
    let o = c.lower_latest.ensures in
    (o.size, λ x l w. o.goal x l (c.loop-g.invariant.1 x l w))

pub shape_of-at : goal.shape_of-at
shape_of-at c = c.loop-g.invariant.0 ∙ sym c.requires.2

pub returns : goal.returns
returns c =
    let v = c.loop-g.invariant in
    let o = c.fix_starts.ensures in record { latest_starts = λ x l t. latest_all _ x c.loop-g.g c.loop-g.at (v.1 x l (latest_none _ x _ _ t o)) c.loop-g.auto.g-end c.loop-g-test.false; at_len = v.0 }
