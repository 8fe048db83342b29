-- What the amount is below 0, if it counts.
use mathlib.Core.Path.{refl, ap}
use native.Mathlib.Omega.{arith}
use borrow.Author.Tests.{not-true, not-false}
use mathlib.Core.Bool.{not}
use Rattle.needs.proofs.fall_of.Goals as goal

pub returns-then-not-counts : goal.returns-then-not-counts
returns-then-not-counts c = rw (not-true c.args.counts (ap not c.if-not-counts.true)) (refl, omega arith)

pub overflow_sub-result : goal.overflow_sub-result
overflow_sub-result c = omega (arith, c.if-amount-lt-SIGN_BIAS.true)

pub returns-then-amount-lt-SIGN_BIAS : goal.returns-then-amount-lt-SIGN_BIAS
returns-then-amount-lt-SIGN_BIAS c =
    let counts = c.args.counts in
    rw (not-false counts (ap not c.if-not-counts.false)) (omega (arith, c.use_amount-amount.ensures.0), omega arith)

pub returns-else-amount-lt-SIGN_BIAS : goal.returns-else-amount-lt-SIGN_BIAS
returns-else-amount-lt-SIGN_BIAS c =
    let counts = c.args.counts in
    rw (not-false counts (ap not c.if-not-counts.false)) (omega (arith, c.use_amount-amount.ensures.0, c.if-amount-lt-SIGN_BIAS.false), omega arith)
