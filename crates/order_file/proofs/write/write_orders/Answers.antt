-- The orders of one more row are put behind the others.
use native.Mathlib.Nat.{mul-le-mul_left}
use native.Mathlib.Omega.{arith}
use Rattle.order_file.specs.Table.{row_width}
use Rattle.order_file.proofs.Put.{put_size, orders_start, orders_end}
use Rattle.order_file.proofs.write.write_orders.Goals as goal

pub loop-i-init : goal.loop-i-init
loop-i-init c = orders_start _ _ _

pub write_row-at-requires : goal.write_row-at-requires
write_row-at-requires c =
    let p = c.requires in (
      (_, _, record { so_far = c.loop-i.invariant; room = p.0 }),
      p.1,
      omega arith,
      p.2,
      p.3,
    )

pub loop-i-preserved : goal.loop-i-preserved
loop-i-preserved c = c.write_row-at.ensures _ _ c.loop-i.invariant

pub shape_of-out : goal.shape_of-out
shape_of-out c = put_size _ _ _ _ c.loop-i.invariant.put

pub returns : goal.returns
returns c =
    let p = c.requires in
    orders_end _ _ _ _ _ _ _ c.loop-i.invariant p.3 (mul-le-mul_left row_width (omega arith))
