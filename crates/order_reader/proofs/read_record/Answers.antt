use Prim.Native.Nat.{ℕ, ◌<◌}
use mathlib.Core.Path.{◌≡◌, sym, ap, ◌∙◌}
use mathlib.Core.Bool.{true, false}
use native.Mathlib.Omega.{arith}
use borrow.Author.Tests.{ne_eqb}
use Rattle.std.specs.Prelude.{Ok}
use Rattle.order_file.specs.Contents.{Contents}
use Rattle.order_file.specs.Layout.{contents_of}
use Rattle.order_answers.specs.Answers.{table_number, record_count, record_of, record_read, record_there}
use Rattle.order_answers.proofs.Answers.{record_promise}
use Rattle.order_answers.proofs.ReadBack.{record_missing}
use Rattle.order_reader.proofs.read_record.Goals as goal

-- no other table has a record
no_table : (c : Contents) (table : ℕ) → 2 < table → record_count c table ≡ 0
unfolding record_count
no_table c table h = simp (ne_eqb table 0 (omega arith), ne_eqb table 1 (omega arith), ne_eqb table 2 (omega arith))

pub returns-in_default : goal.returns-in_default
returns-in_default c =
    let a = c.args in
    let e = no_table (contents_of a.file.now) a.table c.in_default.ensures in
    record_promise _ _ _ _ (sym (record_missing _ _ _ (rw e (omega arith))))

pub returns-then-well_formed-k : goal.returns-then-well_formed-k
unfolding record_read record_there
returns-then-well_formed-k c =
    let a = c.args in
    let t : a.table ≡ table_number c.in-Some.named = c.in-Some.ensures in
    let e : record_there a.file.now a.table a.number ≡ true = cc in
    record_promise _ _ _ _ (simp e (ap Ok (c.record_of.ensures ∙ ap (λ n. record_of (contents_of a.file.now) n a.number) (sym t))))

pub returns-else-well_formed-k : goal.returns-else-well_formed-k
unfolding record_read record_there
returns-else-well_formed-k c =
    let a = c.args in
    let t : a.table ≡ table_number c.in-Some.named = c.in-Some.ensures in
    let e : record_there a.file.now a.table a.number ≡ false = cc in
    record_promise _ _ _ _ (simp e)
