-- The count stands at byte 52 of edition 3, and no other edition has one.
use mathlib.Core.Path.{refl, sym, ◌∙◌}
use borrow.Author.Tests.{eq-eqb, ne_eqb}
use Rattle.job.specs.Layout.{needs_edition}
use Rattle.job.proofs.layout.needs_counted.Goals as goal

pub returns-then-has_needs : goal.returns-then-has_needs
returns-then-has_needs c =
    rw (c.u16_at-then-has_needs.ensures.0, eq-eqb _ needs_edition (sym c.u16_at.ensures.0 ∙ c.if-has_needs.true)) refl

pub returns-else-has_needs : goal.returns-else-has_needs
returns-else-has_needs c = rw (ne_eqb _ needs_edition (λ q. c.if-has_needs.false (c.u16_at.ensures.0 ∙ q))) refl
