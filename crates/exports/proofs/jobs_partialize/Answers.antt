use Rattle.partialize.specs.Demands.{Promise}
use Rattle.packing.specs.Packed.{packed_answer}
use Rattle.exports.proofs.Carried.{carried}
use Rattle.exports.proofs.jobs_partialize.Goals as goal

pub returns : goal.returns
returns c =
    let b = c.args in
    let p = c.partialize-a.ensures in record { packs = carried (Promise b.job.now b.out.now c.partialize-a.new.out) packed_answer p.answer p c.packed_answer.ensures; out_after = p.buffer }
