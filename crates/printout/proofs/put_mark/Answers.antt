-- With the mark the line is put, without it nothing.
use mathlib.Core.Path.{refl, sym, ◌∙◌}
use native.Mathlib.Omega.{arith}
use Rattle.printout.proofs.Mark.{marked_line, unmarked_line}
use Rattle.printout.proofs.put_mark.Goals as goal

pub returns-then-is_marked : goal.returns-then-is_marked
returns-then-is_marked c =
    let w = c.put_word.ensures in
    rw (marked_line _ (sym c.serial_mark-is_marked.ensures ∙ c.if-is_marked.true)) (w, omega (arith, w.ends))

pub returns-else-is_marked : goal.returns-else-is_marked
returns-else-is_marked c =
    rw (unmarked_line _ (λ e. c.if-is_marked.false (c.serial_mark-is_marked.ensures ∙ e))) (record { bytes = refl; ends = refl }, omega arith)
