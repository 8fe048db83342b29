use Prim.Native.Nat.{ℕ, ◌≤◌, ◌<◌}
use Rattle.timeline.specs.Words.{tick_at}
use Rattle.moves.specs.Moved.{Down, Moved}
use Rattle.limits.specs.Beside.{SoonerAt, OfWords, OfTimed, Answered}
use Rattle.moves.specs.Others.{NoOther}
use Rattle.limits.proofs.latest.lower_points.Given as goal

abbrev pub invariant-loop-p : goal.invariant-loop-p
invariant-loop-p g l =
    (l.span.from ≤ l.off) × (l.off ≤ l.span.until) × (l.span.from ≤ l.on) × (l.on ≤ l.span.until)
    × ((q : ℕ) → l.p ≤ q → q < l.span.high
    → NoOther l.order l.span.from l.off 0 (tick_at l.points q) × NoOther l.order l.span.from l.on 1 (tick_at l.points q))
    × ((offset : ℕ → ℕ) → Answered (goal.F-post g l.at) l.points l.span.low l.span.high offset
    → Moved Down (OfWords l.points l.span.low l.p (OfTimed l.order l.span.from l.span.until (SoonerAt offset))) l.initial.latest l.latest)
