-- The head, the windows, the orders and the links, one behind the other.
use Rattle.text.proofs.Writing.{put_then}
use Rattle.order_text.specs.Text.{file_text}
use borrow.Author.Rules.{rules}
use native.Mathlib.Omega.{arith}
use Rattle.order_text.proofs.put_file.Goals as goal

pub put_head-windows_at-requires : goal.put_head-windows_at-requires
unfolding file_text
put_head-windows_at-requires c = search rules

pub steps-requires : goal.steps-requires
unfolding file_text
steps-requires c = search rules

pub put_windows-orders_at-requires : goal.put_windows-orders_at-requires
unfolding file_text
put_windows-orders_at-requires c = search rules

pub orders-requires : goal.orders-requires
unfolding file_text
orders-requires c = search rules

pub put_orders-links_at-requires : goal.put_orders-links_at-requires
unfolding file_text
put_orders-links_at-requires c = search rules

pub links-requires : goal.links-requires
unfolding file_text
links-requires c = search rules

pub put_links-requires : goal.put_links-requires
unfolding file_text
put_links-requires c = search rules

pub shape_of-out : goal.shape_of-out
unfolding file_text
shape_of-out c = search rules

pub returns : goal.returns
unfolding file_text
returns c =
    let w = rw c.steps.ensures.0 at c.put_windows-orders_at.ensures.0 in
    let o = rw c.orders.ensures.0 at c.put_orders-links_at.ensures.0 in
    let l = rw c.links.ensures.0 at c.put_links.ensures.0 in
    record { put = put_then (put_then (put_then c.put_head-windows_at.ensures.0 w) o) l; upper_bound = omega arith }
