-- The row, whole or in part.
use native.Mathlib.Omega.{arith}
use Rattle.order_file.specs.Table.{row_width}
use Rattle.rows.proofs.Grouped.{row_reached}
use Rattle.rows.proofs.rows.raise_row.Goals as goal

pub returns-then-n-gt-MANY_STEPS : goal.returns-then-n-gt-MANY_STEPS
returns-then-n-gt-MANY_STEPS c =
    row_reached c.args.origin c.args.leads.now _ _ row_width _ c.requires.1 (omega arith) c.requires.2 c.requires.3 c.requires.0.size
    c.raise_part.ensures

pub returns-else-n-gt-MANY_STEPS : goal.returns-else-n-gt-MANY_STEPS
returns-else-n-gt-MANY_STEPS c =
    row_reached c.args.origin c.args.leads.now _ _ c.args.n _ (omega arith) c.requires.1 c.requires.2 c.requires.3 c.requires.0.size
    c.raise_part-else-n-gt-MANY_STEPS.ensures
