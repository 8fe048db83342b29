-- The lengths of tables: they do not depend on the numbers of names.
use Prim.Native.Nat.{ℕ, zero, suc, ◌+◌, ◌/◌, ◌≤◌}
use mathlib.Core.Path.{◌≡◌, refl, sym, ap, ◌∙◌}
use mathlib.Core.List.{List}
use native.Mathlib.Omega.{arith}
use lib.ListN.{length, get_or, length-append}
use lib.Seq.{slice, length-slice}
use Rattle.laws.specs.Fold.{sum}
use Rattle.laws.proofs.Fold.{sum_cong}
use Rattle.job_notes.specs.Tables.{joined, tables_noted}
use Rattle.job_from_notes.specs.declared.brought.Kind.TheVariants.{Conditions, Effects, Uses, Goals}
use Rattle.job_from_notes.specs.Brought.{count_noted, count_of_step, count_planned}
use Rattle.job_from_notes.specs.Counted.{tables_in}
use Rattle.job_from_notes.proofs.Gathered.{condition_count_lem, effect_count_lem, use_count_lem, goal_count_lem}

length_joined : {A : Type 0} (n : ℕ) (f : ℕ → List A) → length (joined n f) ≡ sum n (λ s. length (f s))
unfolding joined sum
length_joined zero f = refl
length_joined (suc n) f = length-append (joined n f) (f n) ∙ ap (λ m. m + length (f n)) (length_joined n f)

module _ (facts levels : ℕ) (said numbers plan acts : List ℕ) (h : length said ≤ length numbers) where
  -- as many numbers as notes
  fit : (k : ℕ) → length (slice k (length said) said) ≤ length (slice k (length said) numbers)
  fit k = omega (arith, length-slice k (length said) said (omega arith), length-slice k (length said) numbers h)

  pub conditions_planned : count_planned Conditions said plan acts ≡ length (tables_in facts levels said numbers plan acts).conditions
  unfolding tables_noted count_of_step
  conditions_planned = sym (length_joined (length plan / 3) _ ∙ sum_cong _ _ _ (λ s l. condition_count_lem s _ _ _ (fit (get_or acts s 0))))

  pub effects_planned : count_planned Effects said plan acts ≡ length (tables_in facts levels said numbers plan acts).effects
  unfolding tables_noted count_of_step
  effects_planned = sym (length_joined (length plan / 3) _ ∙ sum_cong _ _ _ (λ s l. effect_count_lem s _ _ _ (fit (get_or acts s 0))))

  pub uses_planned : count_planned Uses said plan acts ≡ length (tables_in facts levels said numbers plan acts).uses
  unfolding tables_noted count_of_step
  uses_planned = sym (length_joined (length plan / 3) _ ∙ sum_cong _ _ _ (λ s l. use_count_lem s _ _ _ (fit (get_or acts s 0))))

  pub goals_counted : count_noted Goals 0 (slice 0 (length said) said) ≡ length (tables_in facts levels said numbers plan acts).goals
  unfolding tables_noted
  goals_counted = sym (goal_count_lem 0 0 _ _ (fit 0))
