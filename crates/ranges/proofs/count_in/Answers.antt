-- The table picks the count.
use mathlib.Core.Path.{refl}
use Rattle.ranges.proofs.count_in.Goals as goal

pub returns-in-Facts : goal.returns-in-Facts
returns-in-Facts c s = rw c.in-Facts.is refl

pub returns-in-Levels : goal.returns-in-Levels
returns-in-Levels c s = rw c.in-Levels.is refl

pub returns-in-Steps : goal.returns-in-Steps
returns-in-Steps c s = rw c.in-Steps.is refl

pub returns-in-Conditions : goal.returns-in-Conditions
returns-in-Conditions c s = rw c.in-Conditions.is refl

pub returns-in-Effects : goal.returns-in-Effects
returns-in-Effects c s = rw c.in-Effects.is refl

pub returns-in-Uses : goal.returns-in-Uses
returns-in-Uses c s = rw c.in-Uses.is refl

pub returns-in-Goals : goal.returns-in-Goals
returns-in-Goals c s = rw c.in-Goals.is refl

pub returns-in-TimedFacts : goal.returns-in-TimedFacts
returns-in-TimedFacts c s = rw c.in-TimedFacts.is refl

pub returns-in-Needs : goal.returns-in-Needs
returns-in-Needs c s = rw c.in-Needs.is refl
