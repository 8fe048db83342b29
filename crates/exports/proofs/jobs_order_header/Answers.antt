use mathlib.Core.Path.{ap, ◌∙◌}
use Rattle.order_answers.specs.Answers.{HeaderPromise}
use Rattle.packing.specs.Packed.{packed_header}
use Rattle.listing.specs.Listed.{filled, header_list}
use Rattle.exports.proofs.Carried.{carried}
use Rattle.exports.proofs.jobs_order_header.Goals as goal

pub returns : goal.returns
returns c =
    let b = c.args in
    let p = c.read_header-a.ensures in record { packs = carried (HeaderPromise b.file.now) packed_header p.answer p c.packed_header.ensures; list_after = c.list_header.ensures ∙ ap (λ a. filled b.list.now (header_list a)) p.answer }
