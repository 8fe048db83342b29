use Rattle.order_check.specs.WellFormed.{well_formed}
use borrow.Author.Rules.{rules}
use Rattle.order_check.proofs.well_formed.Goals as goal

pub returns-then-layout_holds-length_holds : goal.returns-then-layout_holds-length_holds
unfolding well_formed
returns-then-layout_holds-length_holds c =
    let links = c in
    let test = links in
    let laid = test in
    let e = simp (laid.layout_holds.ensures, laid.length_holds.ensures, laid.counts_hold.ensures) at test.if-layout_holds-length_holds.true in
    simp (
      e,
      links.orders_hold.ensures,
      links.orders_ascend.ensures,
      links.links_hold.ensures,
      c.rounds_hold.ensures,
      c.windows_hold.ensures,
    )

pub returns-else-layout_holds-length_holds : goal.returns-else-layout_holds-length_holds
unfolding well_formed
returns-else-layout_holds-length_holds c =
    let laid = c in
    let e = simp (laid.layout_holds.ensures, laid.length_holds.ensures, laid.counts_hold.ensures) at c.if-layout_holds-length_holds.false in
    simp e
