-- Between crates: cases of the search by pairs: the effects of a job, with how many pairs are compared and the step named.
use Rattle.std.specs.Prelude.{ℕ, ◌≡◌, List, [], ◌∷◌, length, get_or}
use Rattle.job.specs.declared.records.Effect.{Effect}
use Rattle.job.specs.Model.{Model}
use Rattle.against.specs.Pairs.{pair_search}

abbrev pub effect : ℕ → ℕ → ℕ → ℕ → Effect
effect step fact at value = record { step = step; fact = fact; at = at; value = value }

-- so many steps with these effects, and nothing else
unfoldable pub job_with : ℕ → List Effect → Model
job_with steps effects =
    let at : ℕ → Effect = λ k. get_or effects k (effect 0 0 0 0) in
    record {
      facts = 0;
      levels = 0;
      steps = steps;
      conditions = 0;
      effects = length effects;
      uses = 0;
      goals = 0;
      timed = 0;
      needs = 0;
      initial = λ k. 0;
      level_initial = λ k. 0;
      level_least = λ k. 0;
      level_most = λ k. 0;
      start = λ k. 0;
      step_length = λ k. 0;
      fixed = λ k. 0;
      condition_step = λ k. 0;
      condition_fact = λ k. 0;
      condition_from = λ k. 0;
      condition_to = λ k. 0;
      condition_value = λ k. 0;
      effect_step = λ k. (at k).step;
      effect_fact = λ k. (at k).fact;
      effect_at = λ k. (at k).at;
      effect_value = λ k. (at k).value;
      use_step = λ k. 0;
      use_level = λ k. 0;
      use_at = λ k. 0;
      use_amount = λ k. 0;
      goal_fact = λ k. 0;
      goal_value = λ k. 0;
      goal_deadline = λ k. 0;
      timed_fact = λ k. 0;
      timed_tick = λ k. 0;
      timed_value = λ k. 0;
      need_step = λ k. 0;
      need_level = λ k. 0;
      need_at = λ k. 0;
      need_least = λ k. 0;
    }

pub record PairCase : Type 0 where
  pub steps : ℕ
  pub effects : List Effect
  pub compared : ℕ
  pub step : ℕ

abbrev pub pair_case : ℕ → List Effect → ℕ → ℕ → PairCase
pair_case steps effects compared step = record { steps = steps; effects = effects; compared = compared; step = step }

abbrev pub Compares : PairCase → Type 0
Compares c = pair_search (job_with c.steps c.effects) ≡ record { compared = c.compared; step = c.step }

abbrev pub AllCompare : List PairCase → Type 0
AllCompare [] = Unit
AllCompare (c ∷ cs) = Compares c × AllCompare cs

unfoldable pub pair_cases : List PairCase
pair_cases =
    -- nothing to compare
    pair_case 2 [] 0 2
    -- all pairs of a step count, whatever their facts; none is found
    ∷ pair_case 1 (effect 0 0 0 1 ∷ effect 0 1 0 0 ∷ effect 0 2 5 1 ∷ effect 0 3 0 0 ∷ []) 6 1
    -- the first pair, and the last
    ∷ pair_case 1 (effect 0 0 3 1 ∷ effect 0 0 3 0 ∷ effect 0 1 0 1 ∷ []) 1 0
    ∷ pair_case 1 (effect 0 1 0 1 ∷ effect 0 0 3 0 ∷ effect 0 0 3 1 ∷ []) 3 0
    -- at another tick, or to the same value, a fact is not set both ways
    ∷ pair_case 1 (effect 0 0 3 1 ∷ effect 0 0 4 0 ∷ effect 0 0 3 1 ∷ []) 3 1
    -- by the lower effect first: the first with the last comes before the second with the third
    ∷ pair_case 1 (effect 0 0 0 1 ∷ effect 0 1 0 1 ∷ effect 0 1 0 0 ∷ effect 0 0 0 0 ∷ []) 3 0
    -- effects of two steps are no pair
    ∷ pair_case 2 (effect 0 0 0 1 ∷ effect 1 0 0 0 ∷ []) 0 2
    -- the pairs of the steps before count, wherever their effects stand
    ∷ pair_case 3 (effect 2 0 0 1 ∷ effect 0 0 0 1 ∷ effect 2 1 0 1 ∷ effect 0 1 0 1 ∷ effect 2 0 0 0 ∷ []) 3 2
    -- it ends with the lowest step that has a pair found, and compares none of a higher one
    ∷ pair_case 2 (effect 1 0 0 1 ∷ effect 1 0 0 0 ∷ effect 0 0 0 1 ∷ effect 0 0 0 0 ∷ effect 0 1 0 0 ∷ []) 1 0
    ∷ []
