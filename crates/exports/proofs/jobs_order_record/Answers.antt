use mathlib.Core.Path.{ap, ◌∙◌}
use Rattle.order_answers.specs.Answers.{RecordPromise}
use Rattle.packing.specs.Packed.{packed_record}
use Rattle.listing.specs.Listed.{filled, record_list}
use Rattle.exports.proofs.Carried.{carried}
use Rattle.exports.proofs.jobs_order_record.Goals as goal

pub returns : goal.returns
returns c =
    let b = c.args in
    let p = c.read_record-a.ensures in record { packs = carried (RecordPromise b.file.now b.table b.number) packed_record p.answer p c.packed_record.ensures; list_after = c.list_record.ensures ∙ ap (λ a. filled b.list.now (record_list a)) p.answer }
