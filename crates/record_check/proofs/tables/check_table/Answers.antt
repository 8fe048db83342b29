-- The lowest broken record is refused.
use Rattle.std.proofs.Common.{sym, ◌∙◌}
use Rattle.verdict.proofs.Chain.{some_refused, none_refused}
use Rattle.record_check.specs.Records.{table_check}
use Rattle.record_check.proofs.tables.check_table.Goals as goal

pub returns-in-Some : goal.returns-in-Some
unfolding table_check
returns-in-Some c =
    let n = c.count_in-n.ensures c.args.job.bytes.now in
    some_refused _ _ _ (sym c.in-Some.is ∙ (rw n at c.first_broken.ensures))

pub returns : goal.returns
unfolding table_check
returns c =
    let n = c.count_in-n.ensures c.args.job.bytes.now in
    none_refused _ _ _ (sym c.in_default.is ∙ (rw n at c.first_broken.ensures))
