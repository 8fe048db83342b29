-- Two zeros, one or none behind the digits.
use mathlib.Core.Path.{◌≡◌}
use native.Mathlib.Omega.{arith}
use Rattle.spelled_numbers.proofs.thousandths.Goals as goal

pub returns-then-count-eq1 : goal.returns-then-count-eq1
returns-then-count-eq1 c = (rw c.if-count-eq1.true (omega arith), omega arith)

pub returns-then-count-eq2 : goal.returns-then-count-eq2
returns-then-count-eq2 c = (rw c.if-count-eq2.true (omega arith), omega arith)

pub returns : goal.returns
returns c =
    let e : c.args.count ≡ 3 = omega (arith, c.requires) in
    (rw e (omega arith), omega arith)
