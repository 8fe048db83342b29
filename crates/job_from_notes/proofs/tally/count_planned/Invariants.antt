use Prim.Native.Nat.{◌*◌, ◌≤◌}
use mathlib.Core.Path.{◌≡◌}
use Rattle.laws.specs.Fold.{sum}
use Rattle.spelling.specs.Tokens.{text_most}
use Rattle.job_from_notes.specs.Brought.{count_of_step}
use Rattle.job_from_notes.proofs.tally.count_planned.Given as goal

abbrev pub invariant-loop-s : goal.invariant-loop-s
invariant-loop-s l =
    (l.count ≤ text_most * l.s) × (l.count ≡ sum l.s (count_of_step l.kind l.said l.plan l.acts))
