-- The windows passed hold.
use mathlib.Core.Path.{sym}
use native.Mathlib.Omega.{arith}
use Rattle.laws.proofs.Search.{all_intro, all_found}
use Rattle.order_check.proofs.windows_hold.Goals as goal

pub returns-then-not-window_holds : goal.returns-then-not-window_holds
returns-then-not-window_holds c =
    all_found _ _ c.loop-k.k (omega (arith, c.loop-k-test.true, c.steps-k-end.ensures.0)) c.window_holds.ensures c.if-not-window_holds.true

pub returns : goal.returns
returns c = sym (all_intro _ _ (λ j l. c.loop-k.invariant j (omega (arith, l, c.loop-k-test.false, c.steps-k-end.ensures.0))))
