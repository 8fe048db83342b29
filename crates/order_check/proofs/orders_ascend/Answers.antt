-- The orders passed ascend.
use mathlib.Core.Path.{sym}
use native.Mathlib.Omega.{arith}
use Rattle.laws.proofs.Search.{all_intro, all_found}
use Rattle.order_check.proofs.orders_ascend.Goals as goal

pub returns-then-not-ascends_at : goal.returns-then-not-ascends_at
returns-then-not-ascends_at c =
    all_found _ _ c.loop-k.k (omega (arith, c.loop-k-test.true, c.orders.ensures.0)) c.ascends_at.ensures c.if-not-ascends_at.true

pub returns : goal.returns
returns c = sym (all_intro _ _ (λ j l. c.loop-k.invariant j (omega (arith, l, c.loop-k-test.false, c.orders.ensures.0))))
