use Prim.Native.Nat.{ℕ, ◌*◌}
use mathlib.Core.List.{List}
use Rattle.order_file.specs.Table.{row_width}
use Rattle.order_file.specs.Held.{OrdersPut}
use Rattle.order_file.proofs.write.write_row.Given as goal

abbrev pub invariant-loop-q : goal.invariant-loop-q
invariant-loop-q l =
    (b : List ℕ) (s : ℕ) → OrdersPut l.gaps b s (row_width * l.i) l.from l.initial.out → OrdersPut l.gaps b s l.q l.at l.out
