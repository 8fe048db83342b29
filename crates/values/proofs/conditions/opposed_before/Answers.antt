-- Before the last tick is up to the tick before it.
use mathlib.Core.Path.{refl}
use native.Mathlib.Omega.{arith}
use Rattle.values.proofs.conditions.opposed_before.Goals as goal

pub returns-then-last-eq0 : goal.returns-then-last-eq0
returns-then-last-eq0 c = record { never = λ _. refl; scan = λ l. absurd (omega (arith, l, c.if-last-eq0.true)) }

pub returns : goal.returns
returns c = record { never = λ z. absurd (c.if-last-eq0.false z); scan = λ _. c.opposed_from.ensures }
