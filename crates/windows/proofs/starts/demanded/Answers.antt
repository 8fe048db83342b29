-- An entry for no order stays below the bias.
use Prim.Native.Nat.{◌+◌, ◌*◌}
use native.Mathlib.Omega.{arith}
use Rattle.order_file.specs.Table.{row_width}
use Rattle.windows.proofs.Loops.{demand_entry}
use Rattle.windows.proofs.starts.demanded.Goals as goal

pub overflow_add-result-2 : goal.overflow_add-result-2
overflow_add-result-2 c = omega (arith, c.requires.0.most (row_width * c.args.i + c.args.k))

pub returns : goal.returns
returns c = demand_entry _ c.args.i c.args.k c.args.t c.requires.0 c.requires.3
