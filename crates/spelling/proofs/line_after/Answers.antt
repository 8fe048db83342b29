use native.Mathlib.Omega.{arith}
use native.Mathlib.Numerals.{add-one}
use borrow.Author.Rules.{rules}
use borrow.Author.Tests.{eq-eqb, ne_eqb}
use Rattle.spelling.specs.Tokens.{line_after}
use Rattle.spelling.proofs.line_after.Goals as goal

pub overflow_add-result : goal.overflow_add-result
unfolding line_after
overflow_add-result c = search rules

pub returns-then-ends_line : goal.returns-then-ends_line
unfolding line_after
returns-then-ends_line c = (rw (eq-eqb _ _ c.if-ends_line.true) (add-one _), omega arith)

pub returns-else-ends_line : goal.returns-else-ends_line
unfolding line_after
returns-else-ends_line c = (rw (ne_eqb _ _ c.if-ends_line.false), omega arith)
