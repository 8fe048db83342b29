-- The words of each verdict.
use mathlib.Core.Path.{ap}
use Rattle.telling.proofs.Putting.{put_as}
use Rattle.telling.proofs.Unsound.{Other, unsound_other}
use Rattle.telling.specs.Told.{unsound}
use native.Mathlib.Omega.{arith}
use Rattle.telling.proofs.put_unsound.Goals as goal

pub returns-in-CountTooHigh : goal.returns-in-CountTooHigh
unfolding unsound
returns-in-CountTooHigh c = put_as (ap unsound c.in-CountTooHigh.is) (omega arith) c.put_word.ensures

pub returns-in-RecordOutOfRange : goal.returns-in-RecordOutOfRange
unfolding unsound
returns-in-RecordOutOfRange c = rw c.in-RecordOutOfRange.is c.put_of_record.ensures

pub returns-in-StepAgainstItself : goal.returns-in-StepAgainstItself
unfolding unsound
returns-in-StepAgainstItself c = rw c.in-StepAgainstItself.is c.put_of_record-in-StepAgainstItself.ensures

pub returns-in-EffectsConflict : goal.returns-in-EffectsConflict
unfolding unsound
returns-in-EffectsConflict c = rw c.in-EffectsConflict.is c.put_of_record-in-EffectsConflict.ensures

pub returns-in-ConditionFails : goal.returns-in-ConditionFails
unfolding unsound
returns-in-ConditionFails c = rw c.in-ConditionFails.is c.put_of_record-in-ConditionFails.ensures

pub returns-in-LevelOutOfBounds : goal.returns-in-LevelOutOfBounds
unfolding unsound
returns-in-LevelOutOfBounds c = rw c.in-LevelOutOfBounds.is c.put_of_record-in-LevelOutOfBounds.ensures

pub returns-in-GoalFails : goal.returns-in-GoalFails
unfolding unsound
returns-in-GoalFails c = rw c.in-GoalFails.is c.put_of_record-in-GoalFails.ensures

pub returns-in_default : goal.returns-in_default
unfolding unsound
returns-in_default c =
    let d = c.in_default in
    let other : Other c.args.r = record {
      count = d.not-CountTooHigh;
      range = d.not-RecordOutOfRange;
      itself = d.not-StepAgainstItself;
      conflict = d.not-EffectsConflict;
      fails = d.not-ConditionFails;
      bounds = d.not-LevelOutOfBounds;
      goal = d.not-GoalFails;
    } in
    put_as (unsound_other c.args.r other) (omega arith) c.put_word-in_default.ensures
