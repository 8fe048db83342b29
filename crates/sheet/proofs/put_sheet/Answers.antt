-- The head, the windows and the orders, one behind the other.
use Rattle.text.proofs.Writing.{put_then}
use Rattle.sheet.specs.Text.{sheet_text}
use borrow.Author.Rules.{rules}
use native.Mathlib.Omega.{arith}
use Rattle.sheet.proofs.put_sheet.Goals as goal

pub returns : goal.returns
unfolding sheet_text
returns c =
    let b = rw c.steps-steps.ensures.0 at c.put_windows-orders_at.ensures.0 in
    let d = rw c.orders-orders.ensures.0 at c.put_orders.ensures.0 in
    record { put = put_then (put_then c.put_head-windows_at.ensures.0 b) d; upper_bound = omega arith }
