-- The measure is the number, which falls to its tenth.
use Rattle.std.proofs.Common.{arith}
use Rattle.text.proofs.Decimal.{put_one, put_more}
use Rattle.text.proofs.+put_decimal.Goals as goal

pub returns-then-n-lt10 : goal.returns-then-n-lt10
returns-then-n-lt10 t c = put_one _ (omega arith) c.put_digit.ensures

pub returns-else-n-lt10 : goal.returns-else-n-lt10
returns-else-n-lt10 t c =
    put_more _ (omega arith) (omega arith) c.put_decimal-last.ensures.0 c.put_digit-else-n-lt10.ensures
