use Rattle.order_check.specs.WellFormed.{layout_holds}
use borrow.Author.Rules.{rules}
use Rattle.order_check.proofs.layout_holds.Goals as goal

pub returns : goal.returns
unfolding layout_holds
returns c =
    let links = c in
    let orders = links in
    let windows = orders in
    let counts = windows in
    simp (
      windows.u16_at.ensures.0,
      windows.u32_at.ensures.0,
      orders.u32_at-2.ensures.0,
      links.window_at.ensures.0,
      links.u32_at-3.ensures.0,
      c.order_at.ensures.0,
      counts.steps-steps.ensures.0,
      counts.orders-orders.ensures.0,
    )
