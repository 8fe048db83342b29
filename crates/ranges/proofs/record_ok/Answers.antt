-- The table picks the test.
use Rattle.ranges.proofs.record_ok.Goals as goal

pub condition_ok-requires : goal.condition_ok-requires
condition_ok-requires c = let p = c.requires in (p.0, rw c.in-Conditions.is at p.1)

pub effect_ok-requires : goal.effect_ok-requires
effect_ok-requires c = let p = c.requires in (p.0, rw c.in-Effects.is at p.1)

pub use_ok-requires : goal.use_ok-requires
use_ok-requires c = let p = c.requires in (p.0, rw c.in-Uses.is at p.1)

pub timed_ok-requires : goal.timed_ok-requires
timed_ok-requires c = let p = c.requires in (p.0, rw c.in-TimedFacts.is at p.1)

pub need_ok-requires : goal.need_ok-requires
need_ok-requires c = let p = c.requires in (p.0, rw c.in-Needs.is at p.1)

pub returns-in-Facts : goal.returns-in-Facts
returns-in-Facts c = rw c.in-Facts.is c.fact_ok.ensures

pub returns-in-Levels : goal.returns-in-Levels
returns-in-Levels c = rw c.in-Levels.is c.level_ok.ensures

pub returns-in-Steps : goal.returns-in-Steps
returns-in-Steps c = rw c.in-Steps.is c.step_ok.ensures

pub returns-in-Conditions : goal.returns-in-Conditions
returns-in-Conditions c = rw c.in-Conditions.is c.condition_ok.ensures

pub returns-in-Effects : goal.returns-in-Effects
returns-in-Effects c = rw c.in-Effects.is c.effect_ok.ensures

pub returns-in-Uses : goal.returns-in-Uses
returns-in-Uses c = rw c.in-Uses.is c.use_ok.ensures

pub returns-in-Goals : goal.returns-in-Goals
returns-in-Goals c = rw c.in-Goals.is c.goal_ok.ensures

pub returns-in-TimedFacts : goal.returns-in-TimedFacts
returns-in-TimedFacts c = rw c.in-TimedFacts.is c.timed_ok.ensures

pub returns-in-Needs : goal.returns-in-Needs
returns-in-Needs c = rw c.in-Needs.is c.need_ok.ensures
