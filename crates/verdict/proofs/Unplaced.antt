-- Which refusals name no place.
use Prim.Native.Nat.{ℕ, ◌≤◌, ◌<◌}
use mathlib.Core.Path.{◌≡◌, refl}
use mathlib.Core.Logic.{◌⊎◌, inl, inr, ⊎_elim}
use native.Mathlib.Omega.{arith}
use Rattle.std.specs.Prelude.{Ok, Err}
use Rattle.verdict.specs.declared.Refusal.{Refusal}
use Rattle.verdict.specs.declared.Refusal.TheVariants.{FileTooShort, UnknownEdition, MarkOutOfRange, CountTooHigh, LayoutDisagrees}
use Rattle.verdict.specs.declared.Refusal.TheVariants.{RecordOutOfRange, StepAgainstItself, StartsMiscounted, FixedStepMoved, EffectsConflict}
use Rattle.verdict.specs.declared.Refusal.TheVariants.{ConditionFails, LevelOutOfBounds, GoalFails, TimedFactsConflict, NeedUnmet}
use Rattle.verdict.specs.Verdict.{Verdict, number, place, refusal_number, refusal_place, nowhere}

-- nowhere, or neither 1 to 5 nor 8
somewhere : (r : Refusal) → (refusal_place r ≡ nowhere) ⊎ ((5 < refusal_number r) × (refusal_number r ≡ 8 → ⊥))
somewhere FileTooShort = inl refl
somewhere UnknownEdition = inl refl
somewhere MarkOutOfRange = inl refl
somewhere CountTooHigh = inl refl
somewhere LayoutDisagrees = inl refl
somewhere (RecordOutOfRange k) = inr (omega arith, λ e. let z : ◌≡◌ {A = ℕ} 6 8 = e in omega arith)
somewhere (StepAgainstItself k) = inr (omega arith, λ e. let z : ◌≡◌ {A = ℕ} 7 8 = e in omega arith)
somewhere StartsMiscounted = inl refl
somewhere (FixedStepMoved k) = inr (omega arith, λ e. let z : ◌≡◌ {A = ℕ} 9 8 = e in omega arith)
somewhere (EffectsConflict k) = inr (omega arith, λ e. let z : ◌≡◌ {A = ℕ} 10 8 = e in omega arith)
somewhere (ConditionFails k) = inr (omega arith, λ e. let z : ◌≡◌ {A = ℕ} 11 8 = e in omega arith)
somewhere (LevelOutOfBounds k) = inr (omega arith, λ e. let z : ◌≡◌ {A = ℕ} 12 8 = e in omega arith)
somewhere (GoalFails k) = inr (omega arith, λ e. let z : ◌≡◌ {A = ℕ} 13 8 = e in omega arith)
somewhere (TimedFactsConflict k) = inr (omega arith, λ e. let z : ◌≡◌ {A = ℕ} 17 8 = e in omega arith)
somewhere (NeedUnmet k) = inr (omega arith, λ e. let z : ◌≡◌ {A = ℕ} 21 8 = e in omega arith)

pub unplaced : (v : Verdict) → (number v ≤ 5) ⊎ (number v ≡ 8) → place v ≡ nowhere
unplaced (Ok _) h = refl
unplaced (Err r) h =
    ⊎_elim
    (λ (e : refusal_place r ≡ nowhere). e)
    (λ (n : (5 < refusal_number r) × (refusal_number r ≡ 8 → ⊥)).
    absurd (⊎_elim (λ (l : refusal_number r ≤ 5). omega (arith, n.0)) (λ (e : refusal_number r ≡ 8). n.1 e) h))
    (somewhere r)
