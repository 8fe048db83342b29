use Prim.Native.Nat.{◌+◌}
use lib.ListN.{take}
use Rattle.text.specs.Put.{Put}
use Rattle.text.proofs.put_word.Given as goal

abbrev pub invariant-loop-k : goal.invariant-loop-k
invariant-loop-k l = Put l.initial.out l.at (take l.k l.word) l.out (l.at + l.k)
