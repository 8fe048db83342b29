use Rattle.validity.specs.Promise.{JobPromise}
use Rattle.packing.specs.Packed.{packed_verdict}
use Rattle.exports.proofs.Carried.{carried}
use Rattle.exports.proofs.jobs_check.Goals as goal

pub returns : goal.returns
returns c =
    let p = c.check_job-planned.ensures in
    carried (JobPromise c.args.job.now) packed_verdict p.answer p c.packed_verdict.ensures
