-- Inner: what the timing check knows of a file, its job and the points of a schedule, from step to step.
use Rattle.std.specs.Prelude.{ℕ, ◌≤◌, ◌<◌, ◌≡◌, List}
use Rattle.laws.specs.Search.{lowest}
use Rattle.verdict.specs.Verdict.{Verdict, ◌then◌}
use Rattle.job.specs.declared.layout.Job.{Job}
use Rattle.job.specs.Model.{Model, view}
use Rattle.job.specs.WellFormed.{WellFormed}
use Rattle.job.specs.Clocked.{clocked}
use Rattle.validity.specs.declared.Rule.TheVariants.{Levels, Needs, Goals}
use Rattle.validity.specs.Ticks.{schedule_of}
use Rattle.validity.specs.Checks.{condition_fails, rule_check}
use Rattle.points.specs.Points.{PointsKnown, OneValue}
use Rattle.schedule.specs.Opened.{Read}

-- a file that refusals 1 to 6 pass, and its points in the order of their ticks
pub record Ordered (s : List ℕ) (job : Job) (starts points begins : List ℕ) : Type 0 where
  pub read : Read s job
  pub known : PointsKnown (clocked (view job s)) (schedule_of starts) points begins

-- nothing is against itself, no two effects give a fact different values at one tick, and no condition fails
pub record Clear (m : Model) (x : ℕ → ℕ) : Type 0 where
  pub one_value : OneValue m x
  pub one_use :
      (u v : ℕ) → u < m.uses → v < m.uses → m.use_step u ≡ m.use_step v → m.use_level u ≡ m.use_level v → m.use_at u ≡ m.use_at v
      → u ≡ v
  pub keeps_own :
      (e c : ℕ) → e < m.effects → c < m.conditions → m.effect_step e ≡ m.condition_step c → m.effect_fact e ≡ m.condition_fact c
      → m.condition_from c ≤ m.effect_at e
      → m.effect_at e < m.condition_to c
      → m.effect_value e ≡ m.condition_value c
  pub none_fails : m.conditions ≡ lowest m.conditions (condition_fails m x)

-- a well-formed job and its points in order, those of its timed facts among them
pub record FormedPoints (m : Model) (x : ℕ → ℕ) (points begins : List ℕ) : Type 0 where
  pub form : WellFormed m
  pub known : PointsKnown (clocked m) x points begins

-- besides, no two effects that give a fact different values at one tick
pub record Settled (m : Model) (x : ℕ → ℕ) (points begins : List ℕ) : Type 0 where
  pub form : WellFormed m
  pub known : PointsKnown (clocked m) x points begins
  pub one_value : OneValue (clocked m) x

-- refusals 12, 13 and 21
abbrev pub settled_check : Model → (ℕ → ℕ) → Verdict
settled_check m x = rule_check m x Levels then rule_check m x Needs then rule_check m x Goals
