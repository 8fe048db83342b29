-- The job of two texts whose numbers are small, if no count is too high, fits a file.
use Prim.Native.Nat.{ℕ, ◌≤◌, ◌<◌}
use mathlib.Core.Path.{◌≡◌, refl}
use mathlib.Core.Bool.{false}
use mathlib.Core.List.{List}
use native.Mathlib.Omega.{arith}
use lib.Dec.{ltb}
use lib.ListN.{length, get_or, length-map}
use borrow.Author.Tests.{ltb-false}
use Rattle.laws.proofs.Search.{any_false}
use Rattle.little_endian.specs.Bytes.{u16_values}
use Rattle.grammar.specs.Said.{Item}
use Rattle.job.specs.declared.layout.Counts.{Counts}
use Rattle.job.specs.Layout.{highest, count_list, count_too_high}
use Rattle.job_encoding.specs.Encode.{counts_in}
use Rattle.job_encoding.specs.Fits.{Fits}
use Rattle.supplied.specs.Names.{facts, levels, names_of}
use Rattle.supplied.specs.Plan.{Line, lines_of}
use Rattle.supplied.specs.Small.{Small}
use Rattle.supplied.specs.Records.{conditions_in, effects_in, uses_in}
use Rattle.supplied.specs.Job.{initially, amount_of, level_from, step_of, Tables, tables_of, model_in, supplied_job}
use Rattle.supplied.specs.Job.{no_level, no_step, no_condition, no_effect, no_use, no_goal}
use Rattle.supplied.proofs.Every.{Every, every_made, every_map, every_at}
use Rattle.supplied.proofs.Small.{small_amount, small_initial, SmallLine, small_lines}
use Rattle.supplied.proofs.RecordsFit.{LevelFits, StepFits, ConditionFits, EffectFits, UseFits, GoalFits}
use Rattle.supplied.proofs.RecordsFit.{level_fits, step_fits, conditions_fit, effects_fit, uses_fit, goals_fit, steps_fit}

-- counts that are not too high
within : (c : Counts) → count_too_high c ≡ false → (t : ℕ) → t < 9 → get_or (count_list c) t 0 ≤ get_or highest t 0
unfolding count_too_high
within c e t h = ltb-false _ _ (any_false (λ i. ltb (get_or highest i 0) (get_or (count_list c) i 0)) 9 e t h)

record TablesFit (t : Tables) : Type 0 where
  pub facts : Every (λ n. n < 256) t.facts
  pub levels : Every LevelFits t.levels
  pub steps : Every StepFits t.steps
  pub conditions : Every ConditionFits t.conditions
  pub effects : Every EffectFits t.effects
  pub uses : Every UseFits t.uses
  pub goals : Every GoalFits t.goals

-- tables that fit are those of a job that fits
tables_model : (t : Tables) → TablesFit t → count_too_high (counts_in (model_in t)) ≡ false → Fits 1 (model_in t)
unfolding counts_in
tables_model t w e =
    record {
      edition_from = omega arith;
      edition_to = omega arith;
      timed_none = λ n. refl;
      needs_none = λ n. refl;
      facts = omega (arith, most 0 (omega arith));
      levels = omega (arith, most 1 (omega arith));
      steps = omega (arith, most 2 (omega arith));
      conditions = omega (arith, most 3 (omega arith));
      effects = omega (arith, most 4 (omega arith));
      uses = omega (arith, most 5 (omega arith));
      goals = omega (arith, most 6 (omega arith));
      timed = omega arith;
      needs = omega arith;
      initial = λ k h. every_at (λ n. n < 256) 0 (omega arith) t.facts w.facts k;
      level_initial = λ k h. (level k).initial;
      level_least = λ k h. (level k).least;
      level_most = λ k h. (level k).most;
      start = λ k h. (step k).start;
      step_length = λ k h. (step k).length;
      fixed = λ k h. (step k).fixed;
      condition_step = λ k h. (condition k).step;
      condition_fact = λ k h. (condition k).fact;
      condition_from = λ k h. (condition k).from;
      condition_to = λ k h. (condition k).to;
      condition_value = λ k h. (condition k).value;
      effect_step = λ k h. (effect k).step;
      effect_fact = λ k h. (effect k).fact;
      effect_at = λ k h. (effect k).at;
      effect_value = λ k h. (effect k).value;
      use_step = λ k h. (use_of_lem k).step;
      use_level = λ k h. (use_of_lem k).level;
      use_at = λ k h. (use_of_lem k).at;
      use_amount = λ k h. (use_of_lem k).amount;
      goal_fact = λ k h. (goal k).fact;
      goal_value = λ k h. (goal k).value;
      goal_deadline = λ k h. (goal k).deadline;
      timed_fact = λ k h. omega arith;
      timed_tick = λ k h. omega arith;
      timed_value = λ k h. omega arith;
      need_step = λ k h. omega arith;
      need_level = λ k h. omega arith;
      need_at = λ k h. omega arith;
      need_least = λ k h. omega arith;
    }
  where
    most : (i : ℕ) → i < 9 → get_or (count_list (counts_in (model_in t))) i 0 ≤ get_or highest i 0
    most = within (counts_in (model_in t)) e

    level : (k : ℕ) → LevelFits (get_or t.levels k no_level)
    level = every_at LevelFits no_level (record { initial = omega arith; least = omega arith; most = omega arith }) t.levels w.levels

    step : (k : ℕ) → StepFits (get_or t.steps k no_step)
    step = every_at StepFits no_step (record { start = omega arith; length = omega arith; fixed = omega arith }) t.steps w.steps

    condition : (k : ℕ) → ConditionFits (get_or t.conditions k no_condition)
    condition =
        every_at ConditionFits no_condition
        (record { step = omega arith; fact = omega arith; from = omega arith; to = omega arith; value = omega arith })
        t.conditions
        w.conditions

    effect : (k : ℕ) → EffectFits (get_or t.effects k no_effect)
    effect =
        every_at EffectFits no_effect
        (record { step = omega arith; fact = omega arith; at = omega arith; value = omega arith })
        t.effects
        w.effects

    use_of_lem : (k : ℕ) → UseFits (get_or t.uses k no_use)
    use_of_lem =
        every_at UseFits no_use
        (record { step = omega arith; level = omega arith; at = omega arith; amount = omega arith })
        t.uses
        w.uses

    goal : (k : ℕ) → GoalFits (get_or t.goals k no_goal)
    goal = every_at GoalFits no_goal (record { fact = omega arith; value = omega arith; deadline = omega arith }) t.goals w.goals

tables_fit :
    (is : List Item) (ls : List Line) → Small is → Every SmallLine ls → length (names_of facts is) < u16_values
    → length (names_of levels is) < u16_values → length ls < u16_values → TablesFit (tables_of is ls)
unfolding tables_of
tables_fit is ls s p a b c =
    record {
      facts = every_made (λ n. n < 256) (initially is) (small_initial is) (names_of facts is);
      levels = every_made LevelFits (λ v. level_from (amount_of is v)) (λ v. level_fits (amount_of is v) (small_amount is v s)) (names_of levels is);
      steps = every_map StepFits SmallLine step_of step_fits ls p;
      conditions = steps_fit ConditionFits (conditions_in (names_of facts is))
          (λ step length e d js q. conditions_fit (names_of facts is) a step length e d js) is s 0 ls (omega arith) p;
      effects = steps_fit EffectFits (effects_in (names_of facts is))
          (λ step length e d js q. effects_fit (names_of facts is) a step length e d js) is s 0 ls (omega arith) p;
      uses = steps_fit UseFits (uses_in (names_of levels is))
          (λ step length e d js q. uses_fit (names_of levels is) b step length e d js q) is s 0 ls (omega arith) p;
      goals = goals_fit (names_of facts is) a is;
    }

pub fits : (is plan : List Item) → Small is → Small plan → count_too_high (counts_in (supplied_job is plan)) ≡ false → Fits 1 (supplied_job is plan)
unfolding counts_in tables_of
fits is plan s p e =
    let most = within (counts_in (supplied_job is plan)) e in
    let ls = lines_of plan in
    tables_model (tables_of is ls)
    (tables_fit is ls s (small_lines plan p)
    (omega (arith, most 0 (omega arith), length-map (names_of facts is) (initially is)))
    (omega (arith, most 1 (omega arith), length-map (names_of levels is) (λ v. level_from (amount_of is v))))
    (omega (arith, most 2 (omega arith), length-map ls step_of)))
    e
