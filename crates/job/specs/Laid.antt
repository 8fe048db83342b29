-- Between crates: records that lie within the bytes: those of steps, conditions, effects, uses, timed facts and needs, as refusal 5 leaves them.
use Rattle.std.specs.Prelude.{ℕ, ◌+◌, ◌*◌, ◌≤◌, List, length}
use Rattle.job.specs.declared.layout.Job.{Job}
use Rattle.job.specs.Layout.{step_width, condition_width, effect_width, use_width, timed_width, need_width}

pub record Laid (j : Job) (s : List ℕ) : Type 0 where
  pub steps : j.at.steps + step_width * j.count.steps ≤ length s
  pub conditions : j.at.conditions + condition_width * j.count.conditions ≤ length s
  pub effects : j.at.effects + effect_width * j.count.effects ≤ length s
  pub uses : j.at.uses + use_width * j.count.uses ≤ length s
  pub timed : j.at.timed + timed_width * j.count.timed ≤ length s
  pub needs : j.at.needs + need_width * j.count.needs ≤ length s
