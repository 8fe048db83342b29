-- Nothing, or what is read.
use mathlib.Core.Path.{refl, ap}
use native.Mathlib.Omega.{arith}
use Rattle.std.specs.Prelude.{Some}
use Rattle.moves.proofs.others.next_tick.Goals as goal

pub returns-then-place-until : goal.returns-then-place-until
returns-then-place-until c = (λ l. absurd (omega (arith, c.if-place-until.true)), λ _. ap Some c.tick_of.ensures.0)

pub returns-else-place-until : goal.returns-else-place-until
returns-else-place-until c = (λ _. refl, λ l. absurd (omega (arith, c.if-place-until.false)))
