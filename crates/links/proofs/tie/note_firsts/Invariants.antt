use Prim.Native.Nat.{◌≤◌}
use mathlib.Core.Path.{◌≡◌}
use lib.ListN.{length}
use Rattle.timeline.specs.Words.{step_span}
use Rattle.links.specs.Tied.{Firsts}
use Rattle.links.proofs.tie.note_firsts.Given as goal

abbrev pub invariant-loop-p : goal.invariant-loop-p
invariant-loop-p l = (l.from ≤ l.p) × (l.p ≤ l.end) × (length l.firsts ≡ step_span) × Firsts l.points l.p l.end l.firsts
