-- The tables are put one behind the other.
use native.Mathlib.Omega.{arith}
use Rattle.order_file.proofs.Whole.{orders_most, put_file}
use Rattle.order_file.proofs.write.write_file.Goals as goal

pub write_header-requires : goal.write_header-requires
write_header-requires c = let start = c in (omega arith, orders_most start.requires)

pub order_at-requires : goal.order_at-requires
order_at-requires c =
    let header = c in
    let start = header in
    (omega arith, omega (arith, orders_most start.requires))

pub write_links-requires : goal.write_links-requires
write_links-requires c =
    let start = c in
    let roomy = start.requires in
    (omega (arith, roomy.file_fits), roomy.linked_count)

pub returns : goal.returns
returns c =
    let links = c in
    let orders = links in
    let windows = orders in
    let header = windows in
    let start = header in
    put_file _ _ _ _ _ _ _ start.requires header.write_header.ensures windows.write_windows.ensures
    (rw orders.window_at.ensures.0 at orders.write_orders.ensures)
    (rw links.order_at.ensures.0 at links.write_links.ensures)
