-- The first k numbers stand.
use mathlib.Core.Path.{refl, sym, ◌∙◌}
use Rattle.listing.proofs.Filling.{filled_none, fill_more, fill_end}
use native.Mathlib.Omega.{arith}
use Rattle.listing.proofs.fill.Goals as goal

pub loop-k-init : goal.loop-k-init
loop-k-init c = (refl, sym (filled_none _))

pub loop-k-preserved : goal.loop-k-preserved
loop-k-preserved c =
    let i = c.loop-k.invariant in
    (c.put.auto.list ∙ i.0, fill_more _ c.args.numbers.now c.loop-k.k i.1 (omega arith) c.put.ensures)

pub shape_of-list : goal.shape_of-list
shape_of-list c = c.loop-k.invariant.0

pub returns : goal.returns
returns c = fill_end _ c.args.numbers.now c.loop-k.k c.loop-k.invariant.1 (omega arith)
