use Rattle.validity.specs.Promise.{SchedulePromise}
use Rattle.packing.specs.Packed.{packed_verdict}
use Rattle.exports.proofs.Carried.{carried}
use Rattle.exports.proofs.jobs_check_schedule.Goals as goal

pub returns : goal.returns
returns c =
    let b = c.args in
    let p = c.check_schedule-timed.ensures in
    carried (SchedulePromise b.job.now b.starts.now) packed_verdict p.answer p c.packed_verdict.ensures
