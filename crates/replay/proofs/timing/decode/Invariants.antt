-- The list keeps its length.
use Rattle.std.proofs.Common.{length, ◌≡◌}
use Rattle.replay.proofs.timing.decode.Given as goal

abbrev pub invariant-loop-i : goal.invariant-loop-i
invariant-loop-i l = length l.starts ≡ length l.initial.starts
