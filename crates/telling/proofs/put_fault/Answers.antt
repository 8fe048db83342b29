-- The words of each answer.
use mathlib.Core.Path.{refl, ap}
use Rattle.telling.proofs.Putting.{put_as}
use Rattle.telling.specs.Told.{fault}
use borrow.Author.Rules.{rules}
use native.Mathlib.Omega.{arith}
use Rattle.telling.proofs.put_fault.Goals as goal

pub returns-in-ActionsOutside : goal.returns-in-ActionsOutside
unfolding fault
returns-in-ActionsOutside c = rw c.in-ActionsOutside.is c.put_at_line.ensures

pub returns-in-ActionsTooDeep : goal.returns-in-ActionsTooDeep
unfolding fault
returns-in-ActionsTooDeep c = rw c.in-ActionsTooDeep.is c.put_at_line-in-ActionsTooDeep.ensures

pub returns-in-PlanOutside : goal.returns-in-PlanOutside
unfolding fault
returns-in-PlanOutside c = rw c.in-PlanOutside.is c.put_at_line-in-PlanOutside.ensures

pub returns-in-PlanDiffers : goal.returns-in-PlanDiffers
unfolding fault
returns-in-PlanDiffers c = rw c.in-PlanDiffers.is c.put_at_line-in-PlanDiffers.ensures

pub returns-in-Refused : goal.returns-in-Refused
unfolding fault
returns-in-Refused c = rw c.in-Refused.is c.put_unsound.ensures

pub returns-in-BufferTooShort : goal.returns-in-BufferTooShort
unfolding fault
returns-in-BufferTooShort c = put_as (ap fault c.in-BufferTooShort.is) (omega arith) c.put_word.ensures
