-- A count has 16 bits, so a table has fewer than 2^20 bytes.
use mathlib.Core.Path.{refl}
use native.Mathlib.Nat.{mul-le-mul_right}
use native.Mathlib.Omega.{arith}
use borrow.Author.Rules.{rules}
use Rattle.job.proofs.layout.table_end.Goals as goal

pub overflow_mul-result : goal.overflow_mul-result
overflow_mul-result c = search (rules, mul-le-mul_right c.args.count c.requires.1)

pub overflow_add-result : goal.overflow_add-result
overflow_add-result c = search (rules, mul-le-mul_right c.args.count c.requires.1)

pub overflow_cast-result-3 : goal.overflow_cast-result-3
overflow_cast-result-3 c = search (rules, mul-le-mul_right c.args.count c.requires.1)

pub returns : goal.returns
returns c = record { value = refl; upper_bound = omega (arith, mul-le-mul_right c.args.count c.requires.1) }
