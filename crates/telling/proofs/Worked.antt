-- Whole lines, computed.
use mathlib.Core.Path.{◌≡◌, refl}
use Rattle.std.specs.Prelude.{Ok, Err}
use Rattle.spelling.specs.Keywords.{codes}
use Rattle.text.specs.Decimal.{digits, decimal}
use Rattle.verdict.specs.declared.Refusal.TheVariants.{ConditionFails}
use Rattle.texts_answer.specs.declared.TextsRefusal.TheVariants.{PlanDiffers, Refused}
use Rattle.telling.specs.Told.{at_line, of_record, unsound, fault, made_line, refused_line, told}

made : told (Ok 726) ≡ codes "a job of 726 bytes\n"
unfolding told made_line decimal digits
made = refl

-- the place counts lines from 0, the words from 1
tenth_line : told (Err (PlanDiffers 9)) ≡ codes "refused 20 place 9: no action of this name and duration, plan, line 10\n"
unfolding told refused_line fault at_line decimal digits
tenth_line = refl

condition_fails_lem : told (Err (Refused (ConditionFails 3))) ≡ codes "refused 11 place 3: a condition fails, condition 3\n"
unfolding told refused_line fault unsound of_record decimal digits
condition_fails_lem = refl
