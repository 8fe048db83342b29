use Rattle.timeline.specs.Walking.{Walking}
use Rattle.timeline.proofs.walk.advance.Given as goal

abbrev pub invariant-loop-place : goal.invariant-loop-place
invariant-loop-place l = Walking l.points l.low l.high l.t (record { place = l.place; run = l.run })
