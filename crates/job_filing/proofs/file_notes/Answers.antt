-- Too many records, or the job's bytes checked.
use Prim.Native.Nat.{ℕ}
use native.Mathlib.Omega.{arith}
use lib.ListN.{length-replicate}
use Rattle.job_filing.proofs.Counted.{low_fits, each_low, filed_high, writable, front_long, front_within, front_short, filed_checked}
use Rattle.job_filing.proofs.file_notes.Goals as goal

pub returns-then-too_many : goal.returns-then-too_many
returns-then-too_many c =
    let p = c.requires in
    let records = c.count_records-totals.ensures in
    let goals = c.count_goals-goals.ensures in
    filed_high _ _ _ _ _ _ _ _ p.0 p.1 records goals _ c.too_many.ensures c.if-too_many.true

pub overflow_cast-count : goal.overflow_cast-count
overflow_cast-count c =
    let names = c.args.names in
    let counts = each_low names.facts names.levels c.count_goals-goals.result c.count_records-totals.result in
    low_fits 256 (counts c.too_many.ensures c.if-too_many.false).0 (omega arith)

pub overflow_cast-count-2 : goal.overflow_cast-count-2
overflow_cast-count-2 c =
    let names = c.args.names in
    let counts = each_low names.facts names.levels c.count_goals-goals.result c.count_records-totals.result in
    low_fits 16 (counts c.too_many.ensures c.if-too_many.false).1 (omega arith)

pub overflow_cast-count-4 : goal.overflow_cast-count-4
overflow_cast-count-4 c =
    let names = c.args.names in
    let counts = each_low names.facts names.levels c.count_goals-goals.result c.count_records-totals.result in
    low_fits 512 (counts c.too_many.ensures c.if-too_many.false).2 (omega arith)

pub overflow_cast-count-5 : goal.overflow_cast-count-5
overflow_cast-count-5 c =
    let names = c.args.names in
    let counts = each_low names.facts names.levels c.count_goals-goals.result c.count_records-totals.result in
    low_fits 512 (counts c.too_many.ensures c.if-too_many.false).3 (omega arith)

pub overflow_cast-count-6 : goal.overflow_cast-count-6
overflow_cast-count-6 c =
    let names = c.args.names in
    let counts = each_low names.facts names.levels c.count_goals-goals.result c.count_records-totals.result in
    low_fits 256 (counts c.too_many.ensures c.if-too_many.false).4 (omega arith)

pub overflow_cast-count-7 : goal.overflow_cast-count-7
overflow_cast-count-7 c =
    let names = c.args.names in
    let counts = each_low names.facts names.levels c.count_goals-goals.result c.count_records-totals.result in
    low_fits 32 (counts c.too_many.ensures c.if-too_many.false).5 (omega arith)

pub write_job-n-requires : goal.write_job-n-requires
write_job-n-requires c =
    let p = c.requires in
    let records = c.count_records-totals.ensures in
    let goals = c.count_goals-goals.ensures in
    writable _ _ _ _ _ _ _ _ p.0 p.1 records goals c.too_many.ensures c.if-too_many.false _ (omega (arith, length-replicate {A = ℕ} 16752 0))

pub slice_bounds-job-end : goal.slice_bounds-job-end
slice_bounds-job-end c =
    let p = c.requires in
    let records = c.count_records-totals.ensures in
    let goals = c.count_goals-goals.ensures in
    let w = c.write_job-n.ensures in
    front_within _ _ _ _ _ _ _ _ p.0 p.1 records goals c.too_many.ensures c.if-too_many.false _ _ _ w.value w.out_after

pub slice_bounds-file_checked-end : goal.slice_bounds-file_checked-end
slice_bounds-file_checked-end c =
    let p = c.requires in
    let records = c.count_records-totals.ensures in
    let goals = c.count_goals-goals.ensures in
    let w = c.write_job-n.ensures in
    front_long _ _ _ _ _ _ _ _ p.0 p.1 records goals c.too_many.ensures c.if-too_many.false _ _ _ w.value w.out_after

pub file_checked-requires : goal.file_checked-requires
file_checked-requires c =
    let p = c.requires in
    let records = c.count_records-totals.ensures in
    let goals = c.count_goals-goals.ensures in
    let w = c.write_job-n.ensures in
    front_short _ _ _ _ _ _ _ _ p.0 p.1 records goals c.too_many.ensures c.if-too_many.false _ _ _ w.value w.out_after

pub returns : goal.returns
returns c =
    let p = c.requires in
    let records = c.count_records-totals.ensures in
    let goals = c.count_goals-goals.ensures in
    let w = c.write_job-n.ensures in
    filed_checked _ _ _ _ _ _ _ _ p.0 p.1 records goals c.too_many.ensures c.if-too_many.false _ _ _ w.value w.out_after
    c.file_checked.ensures
