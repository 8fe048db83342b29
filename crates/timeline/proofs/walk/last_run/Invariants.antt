use Rattle.timeline.specs.Walking.{Alike}
use Rattle.timeline.proofs.walk.last_run.Given as goal

abbrev pub invariant-loop-place : goal.invariant-loop-place
invariant-loop-place l = Alike l.points l.low l.high l.place
