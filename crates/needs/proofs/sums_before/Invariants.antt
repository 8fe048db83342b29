use Prim.Native.Nat.{ℕ, ◌-◌}
use Rattle.job.specs.Clocked.{clocked}
use Rattle.job.specs.Model.{view}
use Rattle.timeline.specs.Words.{word_tick}
use Rattle.needs.specs.LevelNeeds.{Behind}
use Rattle.needs.proofs.sums_before.Given as goal

abbrev pub invariant-loop-sums : goal.invariant-loop-sums
invariant-loop-sums l =
    (low : ℕ) → Behind (clocked (view l.job.head l.job.bytes.now)) l.points low l.high (word_tick l.word) l.initial.sums
    → Behind (clocked (view l.job.head l.job.bytes.now)) l.points low l.high (word_tick l.word) l.sums

abbrev pub decreases-loop-sums : goal.decreases-loop-sums
decreases-loop-sums l = l.high - l.sums.place
