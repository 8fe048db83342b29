-- Part of the promise: what each refusal says. One plain predicate a rule, 9 to 13 and 21, of one record, in the words of `Valid`.
use Rattle.std.specs.Prelude.{ℕ, suc, ◌+◌, ◌≤◌, ◌<◌, ◌≡◌, List, ◌⊎◌}
use Rattle.verdict.specs.Verdict.{Verdict, number, place, nowhere}
use Rattle.job.specs.Model.{Model, model_of, no_deadline}
use Rattle.job.specs.WellFormed.{WellFormed}
use Rattle.job.specs.Clocked.{clocked}
use Rattle.form.specs.Refusals.{form_check}
use Rattle.form.specs.Refused.{FormRefusal, FormNumber}
use Rattle.validity.specs.declared.Rule.{Rule}
use Rattle.validity.specs.declared.Rule.TheVariants.{FixedSteps, Effects, Conditions, Levels, Needs, Goals}
use Rattle.validity.specs.Ticks.{effect_tick, first_tick, last_tick}
use Rattle.validity.specs.Seen.{seen, after_all}
use Rattle.validity.specs.Levels.{rises_before, falls_before, falls_against, risen_to}
use Rattle.validity.specs.Valid.{Valid}
use Rattle.validity.specs.Checks.{count_under}

-- condition c holds
pub record ConditionHolds (m : Model) (x : ℕ → ℕ) (c : ℕ) : Type 0 where
  pub seen_throughout : (t : ℕ) → first_tick m x c ≤ t → t ≤ last_tick m x c → seen m x (m.condition_fact c) t ≡ m.condition_value c
  pub unopposed :
      (e : ℕ) → e < m.effects → (m.effect_step e ≡ m.condition_step c → ⊥) → m.effect_fact e ≡ m.condition_fact c
      → first_tick m x c ≤ effect_tick m x e
      → effect_tick m x e ≤ last_tick m x c
      → m.effect_value e ≡ m.condition_value c

-- level l stays in its bounds
pub record LevelHolds (m : Model) (x : ℕ → ℕ) (l : ℕ) : Type 0 where
  pub low : (t : ℕ) → m.level_least l + falls_before m x l (suc t) ≤ m.level_initial l + rises_before m x l t
  pub high : (t : ℕ) → m.level_initial l + rises_before m x l (suc t) ≤ m.level_most l + falls_before m x l t

-- goal g is reached, and in time
pub record GoalHolds (m : Model) (x : ℕ → ℕ) (g : ℕ) : Type 0 where
  pub reached : seen m x (m.goal_fact g) (after_all m x) ≡ m.goal_value g
  pub in_time : (t : ℕ) → (m.goal_deadline g ≡ no_deadline → ⊥) → m.goal_deadline g < t → seen m x (m.goal_fact g) t ≡ m.goal_value g

-- the k-th fixed step, effect, condition, level, need or goal keeps its rule: what `Valid` asks of it
abbrev pub Keeps : Model → (ℕ → ℕ) → Rule → ℕ → Type 0
Keeps m x FixedSteps k = m.fixed k ≡ 1 → x k ≡ m.start k
Keeps m x Effects e =
    (f : ℕ) → f < m.effects → (m.effect_step e ≡ m.effect_step f → ⊥) → m.effect_fact e ≡ m.effect_fact f
    → effect_tick m x e ≡ effect_tick m x f
    → m.effect_value e ≡ m.effect_value f
Keeps m x Conditions c = ConditionHolds m x c
Keeps m x Levels l = LevelHolds m x l
Keeps m x Needs n = m.need_least n + falls_against m x n ≤ risen_to m x n
Keeps m x Goals g = GoalHolds m x g

-- every record keeps a rule
abbrev pub Kept : Model → (ℕ → ℕ) → Rule → Type 0
Kept m x rule = (k : ℕ) → k < count_under m rule → Keeps m x rule k

-- 9: the step is fixed and has another start
pub record Moved (m : Model) (x : ℕ → ℕ) (k : ℕ) : Type 0 where
  pub fixed : m.fixed k ≡ 1
  pub other_start : x k ≡ m.start k → ⊥

-- 10: f is an effect of another step, on the same fact at the same tick, with another value
pub record ConflictsWith (m : Model) (x : ℕ → ℕ) (e f : ℕ) : Type 0 where
  pub known : f < m.effects
  pub other_step : m.effect_step e ≡ m.effect_step f → ⊥
  pub same_fact : m.effect_fact e ≡ m.effect_fact f
  pub same_tick : effect_tick m x e ≡ effect_tick m x f
  pub other_value : m.effect_value e ≡ m.effect_value f → ⊥

-- 11: at tick t of the condition another value is seen
pub record UnseenAt (m : Model) (x : ℕ → ℕ) (c t : ℕ) : Type 0 where
  pub from_first : first_tick m x c ≤ t
  pub to_last : t ≤ last_tick m x c
  pub other_value : seen m x (m.condition_fact c) t ≡ m.condition_value c → ⊥

-- 11: e is an effect of another step that opposes the condition at a tick from its first to its last
pub record OpposedBy (m : Model) (x : ℕ → ℕ) (c e : ℕ) : Type 0 where
  pub known : e < m.effects
  pub other_step : m.effect_step e ≡ m.condition_step c → ⊥
  pub same_fact : m.effect_fact e ≡ m.condition_fact c
  pub from_first : first_tick m x c ≤ effect_tick m x e
  pub to_last : effect_tick m x e ≤ last_tick m x c
  pub other_value : m.effect_value e ≡ m.condition_value c → ⊥

-- 12: at tick t the level falls below its least, or rises above its most
abbrev pub OutOfBounds : Model → (ℕ → ℕ) → ℕ → ℕ → Type 0
OutOfBounds m x l t =
    (m.level_initial l + rises_before m x l t < m.level_least l + falls_before m x l (suc t))
    ⊎ (m.level_most l + falls_before m x l t < m.level_initial l + rises_before m x l (suc t))

-- 21: the level from earlier ticks, plus all other steps' falls at its tick, stays below the need's least
abbrev pub Unmet : Model → (ℕ → ℕ) → ℕ → Type 0
Unmet m x n = risen_to m x n < m.need_least n + falls_against m x n

-- 13: at tick t after the deadline another value is seen
pub record LateAt (m : Model) (x : ℕ → ℕ) (g t : ℕ) : Type 0 where
  pub deadline : m.goal_deadline g ≡ no_deadline → ⊥
  pub after : m.goal_deadline g < t
  pub other_value : seen m x (m.goal_fact g) t ≡ m.goal_value g → ⊥

-- the k-th fixed step, effect, condition, level, need or goal violates its rule
abbrev pub Violates : Model → (ℕ → ℕ) → Rule → ℕ → Type 0
Violates m x FixedSteps k = Moved m x k
Violates m x Effects e = (f : ℕ) × ConflictsWith m x e f
Violates m x Conditions c = ((t : ℕ) × UnseenAt m x c t) ⊎ ((e : ℕ) × OpposedBy m x c e)
Violates m x Levels l = (t : ℕ) × OutOfBounds m x l t
Violates m x Needs n = Unmet m x n
Violates m x Goals g = (seen m x (m.goal_fact g) (after_all m x) ≡ m.goal_value g → ⊥) ⊎ ((t : ℕ) × LateAt m x g t)

-- the number of what a rule refuses
abbrev pub rule_number : Rule → ℕ
rule_number FixedSteps = 9
rule_number Effects = 10
rule_number Conditions = 11
rule_number Levels = 12
rule_number Needs = 21
rule_number Goals = 13

-- a rule's turn in checking order, which its number does not tell: 21 comes after 12
abbrev pub turn : Rule → ℕ
turn FixedSteps = 0
turn Effects = 1
turn Conditions = 2
turn Levels = 3
turn Needs = 4
turn Goals = 5

-- record k violates the rule, every lower one keeps it, and so does every record under each rule checked before
pub record FirstViolation (m : Model) (x : ℕ → ℕ) (rule : Rule) (k : ℕ) : Type 0 where
  pub counted : k < count_under m rule
  pub violates : Violates m x rule k
  pub lower_keep : (j : ℕ) → j < k → Keeps m x rule j
  pub earlier_kept : (earlier : Rule) → turn earlier < turn rule → Kept m x earlier

-- "each refusal only under its sentence": what the verdict r on the file s and the schedule x says; timed facts act as effects of the clock
pub record UnderItsSentence (s : List ℕ) (x : ℕ → ℕ) (r : Verdict) : Type 0 where
  -- 1 to 7 and 17 are the form check's, and say what it says
  pub form : (number r ≡ 0 → ⊥) → FormNumber (number r) → (r ≡ form_check s) × FormRefusal s r
  -- above 7 the file is well formed, but for 17
  pub well_formed : 7 < number r → (number r ≡ 17 → ⊥) → WellFormed (model_of s)
  -- from 9 to 13 and 21 the number is that of the first rule that is violated, the place the lowest record that violates it
  pub first : (rule : Rule) → number r ≡ rule_number rule → FirstViolation (clocked (model_of s)) x rule (place r)
  -- 10 names an effect of a step
  pub of_step : number r ≡ 10 → place r < (model_of s).effects
  -- and the timing is not sound
  pub unsound : 8 < number r → (number r ≡ 17 → ⊥) → Valid (clocked (model_of s)) x → ⊥
  -- 0 to 5 and 8 name no place
  pub unplaced : (number r ≤ 5) ⊎ (number r ≡ 8) → place r ≡ nowhere
  -- serial jobs are retired: 14 is given to none
  pub most : (number r ≤ 13) ⊎ ((number r ≡ 17) ⊎ (number r ≡ 21))
