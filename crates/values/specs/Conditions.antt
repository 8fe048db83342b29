-- Between crates: what a walk along a fact's setters knows beside its conditions.
use Rattle.std.specs.Prelude.{ℕ, ◌+◌, ◌≤◌, ◌<◌, ◌≡◌, List, length, get_or}
use Rattle.job.specs.Model.{Model}
use Rattle.timeline.specs.Words.{word_step, word_value, word_tick, word_number, tick_at}
use Rattle.timeline.specs.Placed.{Parted, Run}
use Rattle.validity.specs.Ticks.{first_tick}
use Rattle.points.specs.Points.{ClockedRange, PointsKnown, OneValue}
use Rattle.values.specs.declared.conditions.Setters.{Setters}
use Rattle.values.specs.declared.conditions.Walk.{Walk}
use Rattle.opposing.specs.Against.{Rising, OfValue}

-- what the search for a contested condition knows of a job and its points
pub record ConditionsKnown (m : Model) (x : ℕ → ℕ) (points begins : List ℕ) : Type 0 where
  pub form : ClockedRange m
  pub known : PointsKnown m x points begins
  pub one_value : OneValue m x

-- a fact's setters: their places and the fact's initial value
pub record SettersOf (m : Model) (begins : List ℕ) (fact : ℕ) (setters : Setters) : Type 0 where
  pub low : setters.low ≡ get_or begins fact 0
  pub high : setters.high ≡ get_or begins (fact + 1) 0
  pub initial : setters.initial ≡ m.initial fact

-- a walk stands at its place: from there up to `off` the points give 0, up to `on` they give 1
pub record Stands (points : List ℕ) (low : ℕ) (walk : Walk) : Type 0 where
  pub run : Run points low walk.place walk.run
  pub off : OfValue points walk.place walk.off 0
  pub on : OfValue points walk.place walk.on 1

-- a walk has not come past tick t
pub record NotPast (points : List ℕ) (setters : Setters) (t : ℕ) (walk : Walk) : Type 0 where
  pub ends : setters.high ≤ length points
  pub rises : Rising points setters.low setters.high
  pub to : walk.place ≤ setters.high
  pub before : (p : ℕ) → setters.low ≤ p → p < walk.place → tick_at points p < t
  pub stands : Stands points setters.low walk

-- a walk has come to tick t
pub record Come (points : List ℕ) (setters : Setters) (t : ℕ) (walk : Walk) : Type 0 where
  pub parts : Parted points setters.low setters.high t walk.place
  pub stands : Stands points setters.low walk
  pub off_from : walk.place ≤ walk.off
  pub on_from : walk.place ≤ walk.on

-- the condition in a word, on the fact
pub record ConditionOf (m : Model) (x : ℕ → ℕ) (fact word : ℕ) : Type 0 where
  pub counted : word_number word < m.conditions
  pub of_fact : m.condition_fact (word_number word) ≡ fact
  pub tick : word_tick word ≡ first_tick m x (word_number word)
  pub value : word_value word ≡ m.condition_value (word_number word)
  pub step : word_step word ≡ m.condition_step (word_number word)

-- a walk along the setters of its fact has come to its first tick
pub record ConditionAt (m : Model) (x : ℕ → ℕ) (points : List ℕ) (setters : Setters) (walk : Walk) (word : ℕ) : Type 0 where
  pub begins : List ℕ
  pub fact : ℕ
  pub all : ConditionsKnown m x points begins
  pub counted : fact < m.facts
  pub placed : SettersOf m begins fact setters
  pub condition : ConditionOf m x fact word
  pub come : Come points setters (word_tick word) walk
