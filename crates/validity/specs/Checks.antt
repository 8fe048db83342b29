-- Refusals 8 to 13 and 21, in checking order: 21 comes after 12. Rules that speak of every tick are tested at the ticks where something happens.
use Rattle.std.specs.Prelude.{ℕ, suc, Bool, ◌&&◌, ◌||◌, not, List, length, ltb, leb, eqb}
use Rattle.laws.specs.Search.{any}
use Rattle.verdict.specs.declared.Refusal.{Refusal}
use Rattle.verdict.specs.declared.Refusal.TheVariants.{StartsMiscounted, FixedStepMoved, EffectsConflict, ConditionFails, LevelOutOfBounds}
use Rattle.verdict.specs.declared.Refusal.TheVariants.{GoalFails, NeedUnmet}
use Rattle.verdict.specs.Verdict.{Verdict, ◌then◌, refuse_if, refuse_lowest}
use Rattle.job.specs.Model.{Model, model_of}
use Rattle.job.specs.Clocked.{clocked}
use Rattle.job.specs.Model.{no_deadline}
use Rattle.form.specs.Refusals.{form_check}
use Rattle.validity.specs.declared.Rule.{Rule}
use Rattle.validity.specs.declared.Rule.TheVariants.{FixedSteps, Effects, Conditions, Levels, Needs, Goals}
use Rattle.validity.specs.Ticks.{schedule_of, planned, effect_tick, first_tick, last_tick, use_tick, opposes, of_another}
use Rattle.validity.specs.Seen.{seen, after_all}
use Rattle.validity.specs.Levels.{above_least, below_most, unmet}

-- refusal 9: a fixed step has another start
unfoldable pub moved : Model → (ℕ → ℕ) → ℕ → Bool
moved m x k = eqb (m.fixed k) 1 && not (eqb (x k) (m.start k))

-- effects e and f of two steps oppose each other at one tick
unfoldable pub meets : Model → (ℕ → ℕ) → ℕ → ℕ → Bool
meets m x e f =
    of_another m e (m.effect_step f) && opposes m e (m.effect_fact f) (m.effect_value f)
    && eqb (effect_tick m x e) (effect_tick m x f)

-- refusal 10: two steps' opposing effects share a tick
unfoldable pub conflicts : Model → (ℕ → ℕ) → ℕ → Bool
conflicts m x e = any m.effects (meets m x e)

-- another step's effect e opposes condition c from its first tick to its last
unfoldable pub breaks : Model → (ℕ → ℕ) → ℕ → ℕ → Bool
breaks m x c e =
    of_another m e (m.condition_step c) && opposes m e (m.condition_fact c) (m.condition_value c)
    && leb (first_tick m x c) (effect_tick m x e)
    && leb (effect_tick m x e) (last_tick m x c)

-- refusal 11: a condition fails: at its first tick, or by an effect on the way
unfoldable pub condition_fails : Model → (ℕ → ℕ) → ℕ → Bool
condition_fails m x c =
    not (eqb (seen m x (m.condition_fact c) (first_tick m x c)) (m.condition_value c)) || any m.effects (breaks m x c)

-- a level passes a bound at the tick of its use u
unfoldable pub passes : Model → (ℕ → ℕ) → ℕ → ℕ → Bool
passes m x l u =
    eqb (m.use_level u) l && not (above_least m x l (use_tick m x u) && below_most m x l (use_tick m x u))

-- refusal 12: a level passes a bound
unfoldable pub level_fails : Model → (ℕ → ℕ) → ℕ → Bool
level_fails m x l = any m.uses (passes m x l)

-- effect e opposes goal g after its deadline
unfoldable pub undoes : Model → (ℕ → ℕ) → ℕ → ℕ → Bool
undoes m x g e = opposes m e (m.goal_fact g) (m.goal_value g) && ltb (m.goal_deadline g) (effect_tick m x e)

-- a goal has a deadline and comes after it, or is undone later
unfoldable pub late : Model → (ℕ → ℕ) → ℕ → Bool
late m x g =
    not (eqb (m.goal_deadline g) no_deadline)
    && (not (eqb (seen m x (m.goal_fact g) (suc (m.goal_deadline g))) (m.goal_value g)) || any m.effects (undoes m x g))

-- refusal 13: a goal fails or comes after its deadline
unfoldable pub goal_fails : Model → (ℕ → ℕ) → ℕ → Bool
goal_fails m x g = not (eqb (seen m x (m.goal_fact g) (after_all m x)) (m.goal_value g)) || late m x g

-- whether the k-th fixed step, effect, condition, level, need or goal breaks its rule
abbrev pub broken : Model → (ℕ → ℕ) → Rule → ℕ → Bool
broken m x FixedSteps k = moved m x k
broken m x Effects k = conflicts m x k
broken m x Conditions k = condition_fails m x k
broken m x Levels k = level_fails m x k
broken m x Needs k = unmet m x k
broken m x Goals k = goal_fails m x k

-- how many there are under a rule
abbrev pub count_under : Model → Rule → ℕ
count_under m FixedSteps = m.steps
count_under m Effects = m.effects
count_under m Conditions = m.conditions
count_under m Levels = m.levels
count_under m Needs = m.needs
count_under m Goals = m.goals

-- what a rule refuses
abbrev pub refusal_of : Rule → ℕ → Refusal
refusal_of FixedSteps k = FixedStepMoved k
refusal_of Effects k = EffectsConflict k
refusal_of Conditions k = ConditionFails k
refusal_of Levels k = LevelOutOfBounds k
refusal_of Needs k = NeedUnmet k
refusal_of Goals k = GoalFails k

-- a rule refuses the lowest that breaks it
unfoldable pub rule_check : Model → (ℕ → ℕ) → Rule → Verdict
rule_check m x rule = refuse_lowest (count_under m rule) (broken m x rule) (refusal_of rule)

-- refusals 10 to 13 and 21
unfoldable pub timing_check : Model → (ℕ → ℕ) → Verdict
timing_check m x =
    rule_check m x Effects then rule_check m x Conditions then rule_check m x Levels then rule_check m x Needs
    then rule_check m x Goals

-- the job check: 1 to 7 and 17, then 10 to 13 and 21 on the written starts, of the job with its timed facts as effects of the clock
unfoldable pub job_check : List ℕ → Verdict
job_check s = form_check s then timing_check (clocked (model_of s)) (planned (model_of s))

-- refusal 8: the list does not have one entry a step
unfoldable pub count_check : Model → List ℕ → Verdict
count_check m starts = refuse_if (not (eqb (length starts) m.steps)) StartsMiscounted

-- refusals 8 to 13 and 21
unfoldable pub starts_check : Model → List ℕ → Verdict
starts_check m starts =
    count_check m starts then rule_check m (schedule_of starts) FixedSteps then timing_check m (schedule_of starts)

-- the timing check: 1 to 7 and 17, then 8 to 13 and 21
unfoldable pub schedule_check : List ℕ → List ℕ → Verdict
schedule_check s starts = form_check s then starts_check (clocked (model_of s)) starts
