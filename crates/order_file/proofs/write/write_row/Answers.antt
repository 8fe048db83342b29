-- One more order is put behind the others, where the entry is one.
use Prim.Native.Nat.{◌<◌}
use mathlib.Core.Path.{◌∙◌}
use native.Mathlib.Omega.{arith}
use Rattle.order_file.specs.Table.{table_size}
use Rattle.order_file.proofs.Put.{put_size, order_fits, orders_more, orders_same, orders_row}
use Rattle.order_file.proofs.write.write_row.Goals as goal
use Rattle.order_file.proofs.write.write_row.Goals.{then-gaps-q-gt-TABLE_BIAS, else-gaps-q-gt-TABLE_BIAS}

pub loop-q-init : goal.loop-q-init
loop-q-init c = λ b s w. w

pub write_order-requires : goal.write_order-requires
write_order-requires c =
    let given = c.requires.0 in
    let put = c.loop-q.invariant _ _ given.2.so_far in
    let fits = order_fits _ _ _ _ _ _ put (omega arith) given.2.room c.if-gaps-q-gt-TABLE_BIAS.true in
    let size = put_size _ _ _ _ put.put in
    (omega arith, c.if-gaps-q-gt-TABLE_BIAS.true, omega arith)

pub overflow_add-at : goal.overflow_add-at
overflow_add-at c =
    let given = c.requires.0 in
    let put = c.loop-q.invariant _ _ given.2.so_far in
    let fits = order_fits _ _ _ _ _ _ put (omega arith) given.2.room c.if-gaps-q-gt-TABLE_BIAS.true in
    let size = put_size _ _ _ _ given.2.so_far.put in
    omega arith

pub loop-q-preserved : goal.loop-q-preserved
loop-q-preserved c =
    let v = c.loop-q.invariant in
    let l : c.loop-q.q < table_size = omega arith in
    λ b s p.
    elim c.if-gaps-q-gt-TABLE_BIAS.branch [
      | then-gaps-q-gt-TABLE_BIAS w ↦
          orders_more _ _ _ _ _ _ (v b s p) l w.if-gaps-q-gt-TABLE_BIAS.true w.at-is (w.out-is ∙ w.write_order.ensures)
      | else-gaps-q-gt-TABLE_BIAS w ↦ orders_same _ _ _ _ _ _ (v b s p) l w.if-gaps-q-gt-TABLE_BIAS.false w.at-is w.out-is
    ]

pub shape_of-out : goal.shape_of-out
shape_of-out c =
    let given = c.requires.0 in
    let first = put_size _ _ _ _ given.2.so_far.put in
    let last = put_size _ _ _ _ (c.loop-q.invariant _ _ given.2.so_far).put in
    omega arith

pub returns : goal.returns
returns c b s p =
    orders_row _ _ _ _ _ _ _ _ (c.loop-q.invariant b s p) c.requires.4 (omega arith) (omega arith) (omega arith)
