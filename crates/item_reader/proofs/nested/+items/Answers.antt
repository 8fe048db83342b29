use Rattle.std.proofs.Common.{arith}
use Rattle.token_reader.proofs.Compose.{lead, then, stands}
use Rattle.token_reader.proofs.Turning.{on_yes, ahead_less, turn_start}
use Rattle.item_reader.proofs.Likeness.{item_alike, and_alike}
use Rattle.item_reader.proofs.Roles.{as_depth}
use Rattle.item_reader.proofs.Loops.{items_again, items_done}
use Rattle.item_reader.proofs.nested.+items.Goals as goal

pub read_item-returns-then-left-eq0 : goal.read_item-returns-then-left-eq0
read_item-returns-then-left-eq0 t c =
    let p1 = c.take_bracket-inner.ensures.reads _ c.requires in
    let p2 = as_depth _ c.if-left-eq0.true ((c.too_deep.ensures _).reads _ p1.ready) in
    stands c.requires.stands (λ _. item_alike _ _ _) (then p1 (lead p2))

pub read_item-read_items-requires : goal.read_item-read_items-requires
read_item-read_items-requires t c =
    let p1 = c.take_bracket-inner.ensures.reads _ c.requires in
    let p2 = c.take_word-list.ensures.reads _ p1.ready in
    (omega (arith, c.decreases, c.if-left-eq0.false), p2.ready)

pub read_item-returns-then-sees_word : goal.read_item-returns-then-sees_word
read_item-returns-then-sees_word t c =
    let p1 = c.take_bracket-inner.ensures.reads _ c.requires in
    let p2 = c.take_word-list.ensures.reads _ p1.ready in
    let inside = then p2 (lead c.read_items.ensures) in
    let list = stands p1.ready.stands (λ _. and_alike _ _ _ _ c.sees_word.ensures c.if-sees_word.true (omega
    (arith, c.if-left-eq0.false))) inside in
    stands c.requires.stands (λ _. item_alike _ _ _) (then p1 (lead list))

pub read_item-returns : goal.read_item-returns
read_item-returns t c =
    let p1 = c.take_bracket-inner.ensures.reads _ c.requires in
    stands c.requires.stands (λ _. item_alike _ _ _) (then p1 (lead (c.read_leaf.ensures _)))

pub read_items-loop-kind-init : goal.read_items-loop-kind-init
read_items-loop-kind-init t c = turn_start _ c.requires

pub read_items-goes_on-requires : goal.read_items-goes_on-requires
read_items-goes_on-requires t c = c.loop-kind.invariant.ready.stands

pub read_items-read_item-next-requires : goal.read_items-read_item-next-requires
read_items-read_item-next-requires t c = (omega (arith, c.decreases), c.loop-kind.invariant.ready)

pub read_items-loop-kind-smaller : goal.read_items-loop-kind-smaller
read_items-loop-kind-smaller t c =
    let p = c.read_item-next.ensures in
    ahead_less c.loop-kind.next p.ready.stands (on_yes _ _ c.goes_on.ensures c.loop-kind-test.true).0 p.onward p.further

pub read_items-loop-kind-preserved : goal.read_items-loop-kind-preserved
read_items-loop-kind-preserved t c =
    items_again _ _ c.loop-kind.invariant c.goes_on.ensures c.loop-kind-test.true c.read_item-next.ensures

pub read_items-take_bracket-requires : goal.read_items-take_bracket-requires
read_items-take_bracket-requires t c = c.loop-kind.invariant.ready.stands

pub read_items-returns : goal.read_items-returns
read_items-returns t c = items_done _ _ c.loop-kind.invariant c.goes_on.ensures c.loop-kind-test.false c.take_bracket.ensures
