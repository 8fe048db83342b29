-- The walk goes on, and so does what it knows of the points ahead.
use native.Mathlib.Omega.{arith}
use Rattle.values.proofs.Walked.{before_walking, come_there}
use Rattle.values.proofs.conditions.walk_to.Goals as goal

pub advance-cursor-requires : goal.advance-cursor-requires
advance-cursor-requires c = before_walking c.requires c.tick_of.ensures.0

pub opposing_from-requires : goal.opposing_from-requires
opposing_from-requires c = c.requires.ends

pub opposing_from-requires-else-value_of-eq0 : goal.opposing_from-requires-else-value_of-eq0
opposing_from-requires-else-value_of-eq0 c = c.requires.ends

pub returns-then-value_of-eq0 : goal.returns-then-value_of-eq0
returns-then-value_of-eq0 c =
    let a = c.advance-cursor.ensures in
    come_there c.requires
    c.tick_of.ensures.0 a.0 a.1 c.max-off.ensures
    c.max-on.ensures c.opposing_from.ensures
    (omega arith, λ p l g. absurd (omega arith))

pub returns-else-value_of-eq0 : goal.returns-else-value_of-eq0
returns-else-value_of-eq0 c =
    let a = c.advance-cursor.ensures in
    come_there c.requires
    c.tick_of.ensures.0 a.0 a.1 c.max-off.ensures
    c.max-on.ensures
    (omega arith, λ p l g. absurd (omega arith)) c.opposing_from-else-value_of-eq0.ensures
