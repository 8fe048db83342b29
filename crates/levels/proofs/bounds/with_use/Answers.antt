-- A use rises or falls by what its amount is from 0.
use mathlib.Core.Path.{refl}
use native.Mathlib.Omega.{arith}
use Rattle.levels.proofs.bounds.with_use.Goals as goal

pub returns-then-amount-gt-SIGN_BIAS : goal.returns-then-amount-gt-SIGN_BIAS
returns-then-amount-gt-SIGN_BIAS c =
    let amount = c.use_amount-amount.ensures in
    record {
      place = refl;
      rising = omega (arith, amount.0);
      falling = omega (arith, amount.0, c.if-amount-gt-SIGN_BIAS.true);
      few = (omega (arith, amount.1), omega arith);
    }

pub returns-else-amount-gt-SIGN_BIAS : goal.returns-else-amount-gt-SIGN_BIAS
returns-else-amount-gt-SIGN_BIAS c =
    let amount = c.use_amount-amount.ensures in
    record {
      place = refl;
      rising = omega (arith, amount.0, c.if-amount-gt-SIGN_BIAS.false);
      falling = omega (arith, amount.0);
      few = (omega arith, omega arith);
    }
