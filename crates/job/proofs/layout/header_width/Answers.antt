-- Edition 3 has the longest header, edition 2 a longer one.
use mathlib.Core.Path.{refl}
use native.Mathlib.Omega.{arith}
use borrow.Author.Tests.{eq-eqb, ne_eqb}
use Rattle.job.specs.Layout.{header_width}
use Rattle.job.proofs.layout.header_width.Goals as goal

pub returns-then-edition-eq-NEEDS_EDITION : goal.returns-then-edition-eq-NEEDS_EDITION
unfolding header_width
returns-then-edition-eq-NEEDS_EDITION c = (rw (eq-eqb _ _ c.if-edition-eq-NEEDS_EDITION.true) refl, omega arith)

pub returns-then-edition-eq-TIMED_EDITION : goal.returns-then-edition-eq-TIMED_EDITION
unfolding header_width
returns-then-edition-eq-TIMED_EDITION c =
    (rw (ne_eqb _ _ c.if-edition-eq-NEEDS_EDITION.false, eq-eqb _ _ c.if-edition-eq-TIMED_EDITION.true) refl, omega arith)

pub returns-else-edition-eq-TIMED_EDITION : goal.returns-else-edition-eq-TIMED_EDITION
unfolding header_width
returns-else-edition-eq-TIMED_EDITION c =
    (rw (ne_eqb _ _ c.if-edition-eq-NEEDS_EDITION.false, ne_eqb _ _ c.if-edition-eq-TIMED_EDITION.false) refl, omega arith)
