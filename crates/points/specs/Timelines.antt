-- Between crates: what a timeline holds.
use Rattle.std.specs.Prelude.{ℕ}
use Rattle.job.specs.Model.{Model}
use Rattle.job.specs.Clocked.{clocked}
use Rattle.job_reader.specs.Seen.{seen}
use Rattle.validity.specs.Ticks.{schedule_of}
use Rattle.points.specs.declared.timelines.Timeline.{Timeline}

-- its job, with the timed facts among the effects
abbrev pub model : Timeline → Model
model t = clocked (seen t.job)

-- when each step starts
abbrev pub schedule : Timeline → ℕ → ℕ
schedule t = schedule_of t.starts.now
