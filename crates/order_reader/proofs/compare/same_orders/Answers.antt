-- The orders passed are the same.
use mathlib.Core.Path.{sym}
use native.Mathlib.Omega.{arith}
use Rattle.laws.proofs.Search.{all_intro, all_found}
use Rattle.order_reader.proofs.compare.same_orders.Goals as goal

pub returns-then-not-same_order : goal.returns-then-not-same_order
returns-then-not-same_order c =
    all_found _ _ c.loop-k.k (omega (arith, c.loop-k-test.true, c.orders-k-end.ensures.0)) c.same_order.ensures c.if-not-same_order.true

pub returns : goal.returns
returns c = sym (all_intro _ _ (λ j l. c.loop-k.invariant j (omega (arith, l, c.loop-k-test.false, c.orders-k-end.ensures.0))))
