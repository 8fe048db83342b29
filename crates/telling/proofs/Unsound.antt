-- The refusals that have no words of their own, whose words are one.
use Prim.Native.Nat.{ℕ}
use mathlib.Core.Path.{◌≡◌, refl}
use Rattle.spelling.specs.Keywords.{codes}
use Rattle.verdict.specs.declared.Refusal.{Refusal}
use Rattle.verdict.specs.declared.Refusal.TheVariants.{FileTooShort, UnknownEdition, MarkOutOfRange, CountTooHigh, LayoutDisagrees}
use Rattle.verdict.specs.declared.Refusal.TheVariants.{RecordOutOfRange, StepAgainstItself, StartsMiscounted, FixedStepMoved, EffectsConflict}
use Rattle.verdict.specs.declared.Refusal.TheVariants.{ConditionFails, LevelOutOfBounds, GoalFails, TimedFactsConflict, NeedUnmet}
use Rattle.telling.specs.Told.{unsound}

-- a refusal without words of its own
pub record Other (v : Refusal) : Type 0 where
  pub count : v ≡ CountTooHigh → ⊥
  pub range : (k : ℕ) → v ≡ RecordOutOfRange k → ⊥
  pub itself : (k : ℕ) → v ≡ StepAgainstItself k → ⊥
  pub conflict : (k : ℕ) → v ≡ EffectsConflict k → ⊥
  pub fails : (k : ℕ) → v ≡ ConditionFails k → ⊥
  pub bounds : (k : ℕ) → v ≡ LevelOutOfBounds k → ⊥
  pub goal : (k : ℕ) → v ≡ GoalFails k → ⊥

pub unsound_other : (v : Refusal) → Other v → unsound v ≡ codes "the job is refused"
unfolding unsound
unsound_other FileTooShort o = refl
unsound_other UnknownEdition o = refl
unsound_other MarkOutOfRange o = refl
unsound_other LayoutDisagrees o = refl
unsound_other StartsMiscounted o = refl
unsound_other (FixedStepMoved k) o = refl
unsound_other (TimedFactsConflict k) o = refl
unsound_other (NeedUnmet k) o = refl
unsound_other CountTooHigh o = absurd (o.count refl)
unsound_other (RecordOutOfRange k) o = absurd (o.range k refl)
unsound_other (StepAgainstItself k) o = absurd (o.itself k refl)
unsound_other (EffectsConflict k) o = absurd (o.conflict k refl)
unsound_other (ConditionFails k) o = absurd (o.fails k refl)
unsound_other (LevelOutOfBounds k) o = absurd (o.bounds k refl)
unsound_other (GoalFails k) o = absurd (o.goal k refl)
