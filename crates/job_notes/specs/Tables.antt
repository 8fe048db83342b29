-- Between crates: the tables of a job, from the notes of its two texts, the numbers of names and the places of actions.
use Rattle.std.specs.Prelude.{ℕ, zero, suc, ◌+◌, ◌-◌, ◌*◌, ◌%◌, Bool, cond, ◌||◌, ◌&&◌, List, [], ◌∷◌, ◌++◌, eqb, ltb, leb, get_or}
use Rattle.std.proofs.Math.Seq.{slice}
use Rattle.laws.specs.Listed.{tabulate}
use Rattle.little_endian.specs.Bytes.{sign_bias}
use Rattle.job.specs.declared.records.Step.{Step}
use Rattle.job.specs.declared.records.Goal.{Goal}
use Rattle.job.specs.declared.records.Condition.{Condition}
use Rattle.job.specs.declared.records.Effect.{Effect}
use Rattle.job.specs.declared.records.Use.{Use}
use Rattle.job.specs.Model.{no_deadline}
use Rattle.notes.specs.Notes.{value_in, role_in, stock_role, rise_role, fall_role}
use Rattle.notes.specs.Notes.{wanted_role, over_all_role, wanted_at_end_role, set_role, set_at_end_role, reached_role, given_role}
use Rattle.supplied.specs.Job.{level_from, Tables}

-- the number that a note holds
unfoldable pub number_noted : ℕ → ℕ
number_noted w = cond (eqb (role_in w) 0) (value_in w) 0

unfoldable pub leading_noted : List ℕ → ℕ
leading_noted [] = 0
leading_noted (w ∷ ws) = number_noted w

-- whether a note belongs to the action before it: a number, a rise or a fall, a fact that is wanted or set
unfoldable pub in_action_noted : ℕ → Bool
in_action_noted w = eqb (role_in w) 0 || (leb rise_role (role_in w) && ltb (role_in w) reached_role)

module _ (step length : ℕ) where
  abbrev wanted_from : ℕ → ℕ → ℕ → ℕ → List Condition
  wanted_from from to w n = record { step = step; fact = n; from = from; to = to; value = role_in w % 2 } ∷ []

  -- a note and the number of its name: facts that are wanted
  unfoldable pub condition_noted : ℕ → ℕ → List Condition
  condition_noted w n =
      let c = role_in w in
      cond (ltb c wanted_role) []
      (cond (ltb c over_all_role) (wanted_from 0 0 w n)
      (cond (ltb c wanted_at_end_role) (cond (ltb length 2) [] (wanted_from 1 (length - 1) w n))
      (cond (ltb c set_role) (wanted_from length length w n) [])))

  -- those that are set
  unfoldable pub effect_noted : ℕ → ℕ → List Effect
  effect_noted w n =
      let c = role_in w in
      cond (ltb c set_role || leb reached_role c) []
      (record { step = step; fact = n; at = cond (ltb c set_at_end_role) 0 length; value = c % 2 } ∷ [])

  -- rises and falls
  unfoldable pub use_noted : ℕ → ℕ → ℕ → List Use
  use_noted w n amount =
      let c = role_in w in
      cond (ltb c rise_role || leb wanted_role c) []
      (record {
        step = step;
        level = n;
        at = cond (eqb (c % 2) 0) 0 length;
        amount = cond (ltb c fall_role) (sign_bias + amount) (sign_bias - amount);
      } ∷ [])

  -- those of an action, from a note of it on
  unfoldable pub conditions_noted : List ℕ → List ℕ → List Condition
  conditions_noted [] ns = []
  conditions_noted (w ∷ ws) [] = []
  conditions_noted (w ∷ ws) (n ∷ ns) = cond (in_action_noted w) (condition_noted w n ++ conditions_noted ws ns) []

  unfoldable pub effects_noted : List ℕ → List ℕ → List Effect
  effects_noted [] ns = []
  effects_noted (w ∷ ws) [] = []
  effects_noted (w ∷ ws) (n ∷ ns) = cond (in_action_noted w) (effect_noted w n ++ effects_noted ws ns) []

  unfoldable pub uses_noted : List ℕ → List ℕ → List Use
  uses_noted [] ns = []
  uses_noted (w ∷ ws) [] = []
  uses_noted (w ∷ ws) (n ∷ ns) = cond (in_action_noted w) (use_noted w n (leading_noted ws) ++ uses_noted ws ns) []

-- facts of the goal
unfoldable pub goal_noted : ℕ → ℕ → List Goal
goal_noted w n =
    let c = role_in w in
    cond (ltb c reached_role || leb given_role c) [] (record { fact = n; value = c % 2; deadline = no_deadline } ∷ [])

unfoldable pub goals_noted : List ℕ → List ℕ → List Goal
goals_noted [] ns = []
goals_noted (w ∷ ws) [] = []
goals_noted (w ∷ ws) (n ∷ ns) = goal_noted w n ++ goals_noted ws ns

-- whether init lists fact f, and what it gives level l
unfoldable pub initial_noted : List ℕ → List ℕ → ℕ → ℕ
initial_noted [] ns f = 0
initial_noted (w ∷ ws) [] f = 0
initial_noted (w ∷ ws) (n ∷ ns) f = cond (leb given_role (role_in w) && eqb n f) 1 (initial_noted ws ns f)

unfoldable pub amount_noted : List ℕ → List ℕ → ℕ → ℕ
amount_noted [] ns l = 0
amount_noted (w ∷ ws) [] l = 0
amount_noted (w ∷ ws) (n ∷ ns) l = cond (eqb (role_in w) stock_role && eqb n l) (leading_noted ws) (amount_noted ws ns l)

-- parts at the indexes below a count, one after the other
unfoldable pub joined : {A : Type 0} → ℕ → (ℕ → List A) → List A
joined zero f = []
joined (suc n) f = joined n f ++ f n

-- start and length of a step: three notes a line
unfoldable pub start_noted : List ℕ → ℕ → ℕ
start_noted plan s = number_noted (get_or plan (3 * s) 0)

unfoldable pub length_noted : List ℕ → ℕ → ℕ
length_noted plan s = number_noted (get_or plan (3 * s + 2) 0)

abbrev pub step_noted : List ℕ → ℕ → Step
step_noted plan s = record { start = start_noted plan s; length = length_noted plan s; fixed = 0 }

-- how many facts, levels and steps there are, and how many notes of the first text
pub record Sizes : Type 0 where
  pub facts : ℕ
  pub levels : ℕ
  pub steps : ℕ
  pub items : ℕ

-- what a list says of all items, and of those from the action of step s on
abbrev pub of_all : Sizes → List ℕ → List ℕ
of_all z l = slice 0 z.items l

abbrev pub of_step : Sizes → List ℕ → List ℕ → ℕ → List ℕ
of_step z acts l s = slice (get_or acts s 0) z.items l

unfoldable pub tables_noted : Sizes → (said numbers plan acts : List ℕ) → Tables
tables_noted z said numbers plan acts = record {
  facts = tabulate z.facts (initial_noted (of_all z said) (of_all z numbers));
  levels = joined z.levels (λ l. level_from (amount_noted (of_all z said) (of_all z numbers) l) ∷ []);
  steps = joined z.steps (λ s. step_noted plan s ∷ []);
  conditions = joined z.steps (λ s. conditions_noted s (length_noted plan s) (of_step z acts said s) (of_step z acts numbers s));
  effects = joined z.steps (λ s. effects_noted s (length_noted plan s) (of_step z acts said s) (of_step z acts numbers s));
  uses = joined z.steps (λ s. uses_noted s (length_noted plan s) (of_step z acts said s) (of_step z acts numbers s));
  goals = goals_noted (of_all z said) (of_all z numbers);
}
