-- Between crates: the job that a reader holds, and whether its records lie within the bytes.
use Rattle.job.specs.Laid.{Laid}
use Rattle.job.specs.Model.{Model, view}
use Rattle.job_reader.specs.declared.reader.JobReader.{JobReader}

abbrev pub seen : JobReader → Model
seen r = view r.head r.bytes.now

abbrev pub IsLaid : JobReader → Type 0
IsLaid r = Laid r.head r.bytes.now
