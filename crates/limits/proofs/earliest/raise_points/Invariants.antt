use Prim.Native.Nat.{ℕ, ◌≤◌, ◌<◌}
use Rattle.timeline.specs.Words.{tick_at}
use Rattle.timeline.specs.Walking.{Walking}
use Rattle.validity.specs.Ticks.{schedule_of}
use Rattle.moves.specs.Moved.{Up, Moved}
use Rattle.limits.specs.Beside.{LaterThan, OfWords, OfTimed}
use Rattle.limits.proofs.earliest.raise_points.Given as goal

abbrev pub invariant-loop-p : goal.invariant-loop-p
invariant-loop-p l =
    ((q : ℕ) → l.p ≤ q → q < l.span.high → Walking l.order l.span.from l.span.until (tick_at l.points q) l.cursor)
    × Moved Up (OfWords l.points l.span.low l.p (OfTimed l.order l.span.from l.span.until (LaterThan (schedule_of l.starts)))) l.initial.limits l.limits
