-- The nine tables, chained as in `record_check`.
use Rattle.std.proofs.Common.{sym}
use Rattle.verdict.specs.Verdict.{◌then◌}
use Rattle.verdict.proofs.Chain.{handed}
use Rattle.record_check.specs.Records.{record_check}
use Rattle.record_check.proofs.tables.check_tables.Goals as goal

pub returns-in_err-check_table : goal.returns-in_err-check_table
unfolding record_check ◌then◌
returns-in_err-check_table c l =
    rw (sym c.in_err-check_table.ensures) (handed _ c.from_residual.ensures.1)

pub returns-in_err-check_table-2 : goal.returns-in_err-check_table-2
unfolding record_check ◌then◌
returns-in_err-check_table-2 c l =
    rw (sym c.in_ok-check_table.ensures, sym c.in_err-check_table-2.ensures)
    (handed _ c.from_residual-in_err-check_table-2.ensures.1)

pub returns-in_err-check_table-3 : goal.returns-in_err-check_table-3
unfolding record_check ◌then◌
returns-in_err-check_table-3 c l =
    rw (sym c.in_ok-check_table.ensures, sym c.in_ok-check_table-2.ensures, sym c.in_err-check_table-3.ensures)
    (handed _ c.from_residual-in_err-check_table-3.ensures.1)

pub returns-in_err-check_table-4 : goal.returns-in_err-check_table-4
unfolding record_check ◌then◌
returns-in_err-check_table-4 c l =
    rw (sym c.in_ok-check_table.ensures, sym c.in_ok-check_table-2.ensures, sym c.in_ok-check_table-3.ensures, sym c.in_err-check_table-4.ensures)
    (handed _ c.from_residual-in_err-check_table-4.ensures.1)

pub returns-in_err-check_table-5 : goal.returns-in_err-check_table-5
unfolding record_check ◌then◌
returns-in_err-check_table-5 c l =
    rw (sym c.in_ok-check_table.ensures, sym c.in_ok-check_table-2.ensures, sym c.in_ok-check_table-3.ensures, sym c.in_ok-check_table-4.ensures, sym c.in_err-check_table-5.ensures)
    (handed _ c.from_residual-in_err-check_table-5.ensures.1)

pub returns-in_err-check_table-6 : goal.returns-in_err-check_table-6
unfolding record_check ◌then◌
returns-in_err-check_table-6 c l =
    rw (sym c.in_ok-check_table.ensures, sym c.in_ok-check_table-2.ensures, sym c.in_ok-check_table-3.ensures, sym c.in_ok-check_table-4.ensures, sym c.in_ok-check_table-5.ensures, sym c.in_err-check_table-6.ensures)
    (handed _ c.from_residual-in_err-check_table-6.ensures.1)

pub returns-in_err-check_table-7 : goal.returns-in_err-check_table-7
unfolding record_check ◌then◌
returns-in_err-check_table-7 c l =
    rw (sym c.in_ok-check_table.ensures, sym c.in_ok-check_table-2.ensures, sym c.in_ok-check_table-3.ensures, sym c.in_ok-check_table-4.ensures, sym c.in_ok-check_table-5.ensures, sym c.in_ok-check_table-6.ensures, sym c.in_err-check_table-7.ensures)
    (handed _ c.from_residual-in_err-check_table-7.ensures.1)

pub returns-in_err-check_table-8 : goal.returns-in_err-check_table-8
unfolding record_check ◌then◌
returns-in_err-check_table-8 c l =
    rw (sym c.in_ok-check_table.ensures, sym c.in_ok-check_table-2.ensures, sym c.in_ok-check_table-3.ensures, sym c.in_ok-check_table-4.ensures, sym c.in_ok-check_table-5.ensures, sym c.in_ok-check_table-6.ensures, sym c.in_ok-check_table-7.ensures, sym c.in_err-check_table-8.ensures)
    (handed _ c.from_residual-in_err-check_table-8.ensures.1)

pub returns : goal.returns
unfolding record_check ◌then◌
returns c l =
    rw (sym c.in_ok-check_table.ensures, sym c.in_ok-check_table-2.ensures, sym c.in_ok-check_table-3.ensures, sym c.in_ok-check_table-4.ensures, sym c.in_ok-check_table-5.ensures, sym c.in_ok-check_table-6.ensures, sym c.in_ok-check_table-7.ensures, sym c.in_ok-check_table-8.ensures)
    c.check_table-9.ensures
