use Rattle.pair_search.specs.Answer.{PairsPromise}
use Rattle.packing.specs.Packed.{packed_pairs}
use Rattle.exports.proofs.Carried.{carried}
use Rattle.exports.proofs.jobs_pairs.Goals as goal

pub returns : goal.returns
returns c =
    let p = c.compare_pairs-a.ensures in
    carried (PairsPromise c.args.job.now) packed_pairs p.answer p c.packed_pairs.ensures
