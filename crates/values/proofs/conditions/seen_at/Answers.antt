-- The point before the place tells the value, or there is none.
use mathlib.Core.Path.{refl}
use borrow.Author.Tests.{lt-ltb, le-ltb}
use Rattle.values.proofs.conditions.seen_at.Goals as goal

pub returns-then-setters-place : goal.returns-then-setters-place
returns-then-setters-place c = rw (lt-ltb _ _ c.if-setters-place.true) c.value_of.ensures.0

pub returns-else-setters-place : goal.returns-else-setters-place
returns-else-setters-place c = rw (le-ltb _ _ c.if-setters-place.false) refl
