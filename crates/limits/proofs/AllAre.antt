-- A new list of starts.
use Prim.Native.Nat.{ℕ}
use lib.ListN.{replicate, length-replicate, get_or-replicate}
use Rattle.order_file.specs.Table.{row_width}
use Rattle.limits.specs.Timed.{AllAre}

pub all_are : (start : ℕ) → AllAre start (replicate row_width start)
all_are start =
    record { size = length-replicate {A = ℕ} row_width start; each = λ k h. get_or-replicate {A = ℕ} row_width k start 0 h }
