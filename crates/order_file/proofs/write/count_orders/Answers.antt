-- The entries so far that are orders are counted.
use mathlib.Core.Path.{refl, ◌∙◌}
use native.Mathlib.Omega.{arith}
use Rattle.laws.proofs.Nth.{count_start, count_more, count_same}
use Rattle.order_file.proofs.Put.{entered_above, entered_below, entered_rest}
use Rattle.order_file.proofs.write.count_orders.Goals as goal
use Rattle.order_file.proofs.write.count_orders.Goals.{then-gaps-q-gt-TABLE_BIAS, else-gaps-q-gt-TABLE_BIAS}

pub loop-q-init : goal.loop-q-init
loop-q-init c = (omega arith, count_start _)

pub loop-q-preserved : goal.loop-q-preserved
loop-q-preserved c =
    let i = c.loop-q.invariant in
    let p = c.loop-q.q in
    let g = c.args.gaps.now in
    elim c.if-gaps-q-gt-TABLE_BIAS.branch [
      | then-gaps-q-gt-TABLE_BIAS w ↦
          (omega arith, w.orders-is ∙ count_more _ _ i.1 refl (entered_above g p w.if-gaps-q-gt-TABLE_BIAS.true))
      | else-gaps-q-gt-TABLE_BIAS w ↦
          (omega arith, w.orders-is ∙ count_same _ _ i.1 refl (entered_below g p w.if-gaps-q-gt-TABLE_BIAS.false))
    ]

pub returns : goal.returns
returns c =
    (c.loop-q.invariant.1 ∙ entered_rest c.args.gaps.now c.args.steps _ c.requires.2 (omega arith) (omega arith), omega arith)
