use Prim.Native.Nat.{◌<◌}
use mathlib.Core.Path.{◌≡◌}
use lib.ListN.{drop}
use Rattle.naming.specs.Index.{key_count, mixed}
use Rattle.naming.proofs.lookup.mix.Given as goal

abbrev pub invariant-loop-b : goal.invariant-loop-b
invariant-loop-b l = (l.h < key_count) × (mixed 0 l.word ≡ mixed l.h (drop l.b-index l.word))
