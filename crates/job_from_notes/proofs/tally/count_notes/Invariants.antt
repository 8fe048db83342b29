use Prim.Native.Nat.{◌+◌, ◌≤◌}
use mathlib.Core.Path.{◌≡◌}
use lib.ListN.{length}
use lib.Seq.{slice}
use Rattle.job_from_notes.specs.Brought.{count_noted}
use Rattle.job_from_notes.proofs.tally.count_notes.Given as goal

abbrev pub invariant-loop-k : goal.invariant-loop-k
invariant-loop-k l =
    (l.count ≤ l.k)
    × (l.count + count_noted l.kind l.duration (slice l.k (length l.said) l.said) ≡ count_noted l.kind l.duration (slice l.from (length l.said) l.said))
