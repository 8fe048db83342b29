-- The last before the cursor, or the one before its run.
use native.Mathlib.Omega.{arith}
use Rattle.moves.proofs.NextOthers.{other_none, other_last, other_same, other_turned}
use Rattle.moves.proofs.others.last_other.Goals as goal

pub returns-then-cursor-from : goal.returns-then-cursor-from
returns-then-cursor-from c = other_none c.requires c.if-cursor-from.true

pub returns-then-value_of-value : goal.returns-then-value_of-value
returns-then-value_of-value c =
    other_last c.requires (omega (arith, c.if-cursor-from.false)) c.value_of.ensures.0 c.if-value_of-value.true
    c.tick_of.ensures.0

pub returns-then-cursor-from-2 : goal.returns-then-cursor-from-2
returns-then-cursor-from-2 c = other_same c.requires c.value_of.ensures.0 c.if-value_of-value.false c.if-cursor-from-2.true

pub returns : goal.returns
returns c =
    other_turned c.requires c.value_of.ensures.0 c.if-value_of-value.false (omega (arith, c.if-cursor-from-2.false))
    c.tick_of-2.ensures.0
