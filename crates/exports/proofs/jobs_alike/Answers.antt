use Rattle.order_answers.specs.Answers.{AlikePromise}
use Rattle.packing.specs.Packed.{packed_alike}
use Rattle.exports.proofs.Carried.{carried}
use Rattle.exports.proofs.jobs_alike.Goals as goal

pub returns : goal.returns
returns c =
    let b = c.args in
    let p = c.alike-x.ensures in
    carried (AlikePromise b.a.now b.b.now) packed_alike p.answer p c.packed_alike.ensures
