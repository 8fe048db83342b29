-- The records that small texts bring fit their bytes, table by table.
use Prim.Native.Nat.{ℕ, suc, ◌+◌, ◌-◌, ◌<◌}
use mathlib.Core.Path.{◌≡◌}
use mathlib.Core.Bool.{Bool, true, false}
use mathlib.Core.Logic.{⊎_elim}
use mathlib.Core.List.{List, [], ◌∷◌}
use native.Mathlib.Omega.{arith}
use lib.ListN.{length}
use Rattle.laws.proofs.Search.{either}
use Rattle.little_endian.specs.Bytes.{u16_values, u32_values}
use Rattle.grammar.specs.Said.{When, at_start, over_all, at_end, Point, start, end, wanted, set, reached, given}
use Rattle.grammar.specs.Said.{action, fact, rise, fall, stock, planned, Said, name, number, Item}
use Rattle.grammar.specs.Tree.{Word}
use Rattle.job.specs.declared.records.Level.{Level}
use Rattle.job.specs.declared.records.Step.{Step}
use Rattle.job.specs.declared.records.Goal.{Goal}
use Rattle.job.specs.declared.records.Condition.{Condition}
use Rattle.job.specs.declared.records.Effect.{Effect}
use Rattle.job.specs.declared.records.Use.{Use}
use Rattle.supplied.specs.Names.{number_of}
use Rattle.supplied.specs.Plan.{Line, behind, leading}
use Rattle.supplied.specs.Small.{Small}
use Rattle.supplied.specs.Records.{bit, tick_of, nothing_inside, body, by_step, condition_at, condition_in, conditions_in}
use Rattle.supplied.specs.Records.{effect_in, effects_in, use_in, uses_in, goal_in, goals_in}
use Rattle.supplied.specs.Job.{level_from, step_of}
use Rattle.supplied.proofs.Numbering.{number_le}
use Rattle.supplied.proofs.Every.{Every, every_append}
use Rattle.supplied.proofs.Small.{small_leading, small_body, small_behind, SmallLine}

-- fields within their bytes
pub record LevelFits (l : Level) : Type 0 where
  pub initial : l.initial < u32_values
  pub least : l.least < u32_values
  pub most : l.most < u32_values

pub record StepFits (s : Step) : Type 0 where
  pub start : s.start < u32_values
  pub length : s.length < u32_values
  pub fixed : s.fixed < u16_values

pub record ConditionFits (c : Condition) : Type 0 where
  pub step : c.step < u16_values
  pub fact : c.fact < u16_values
  pub from : c.from < u32_values
  pub to : c.to < u32_values
  pub value : c.value < u16_values

pub record EffectFits (e : Effect) : Type 0 where
  pub step : e.step < u16_values
  pub fact : e.fact < u16_values
  pub at : e.at < u32_values
  pub value : e.value < u16_values

pub record UseFits (u : Use) : Type 0 where
  pub step : u.step < u16_values
  pub level : u.level < u16_values
  pub at : u.at < u32_values
  pub amount : u.amount < u32_values

pub record GoalFits (g : Goal) : Type 0 where
  pub fact : g.fact < u16_values
  pub value : g.value < u16_values
  pub deadline : g.deadline < u32_values

bit_fits : (b : Bool) → bit b < u16_values
bit_fits true = omega arith
bit_fits false = omega arith

number_fits : (w : Word) (words : List Word) → length words < u16_values → number_of w words < u16_values
number_fits w words h = omega (arith, number_le w words)

pub level_fits : (amount : ℕ) → amount < 1000000000 → LevelFits (level_from amount)
level_fits amount h = record { initial = omega arith; least = omega arith; most = omega arith }

pub step_fits : (l : Line) → SmallLine l → StepFits (step_of l)
step_fits l h = record { start = omega (arith, h.start); length = omega (arith, h.duration); fixed = omega arith }

module _ (words : List Word) (few : length words < u16_values) where
  goal_fits : (s : Said) → Every GoalFits (goal_in words s)
  unfolding goal_in
  goal_fits (name (fact reached v) w) =
      (record { fact = number_fits w words few; value = bit_fits v; deadline = omega arith }, tt)
  goal_fits (name (fact (wanted q) v) w) = tt
  goal_fits (name (fact (set q) v) w) = tt
  goal_fits (name (fact given v) w) = tt
  goal_fits (name (rise q) w) = tt
  goal_fits (name (fall q) w) = tt
  goal_fits (name action w) = tt
  goal_fits (name stock w) = tt
  goal_fits (name planned w) = tt
  goal_fits (number n) = tt

  pub goals_fit : (is : List Item) → Every GoalFits (goals_in words is)
  unfolding goals_in
  goals_fit [] = tt
  goals_fit (i ∷ is) = every_append GoalFits (goal_in words i.said) (goals_in words is) (goal_fits i.said) (goals_fit is)

-- the records of a step of some length
module _ (words : List Word) (few : length words < u16_values) (step length : ℕ) (early : step < u16_values) (short : length < 1000000000) where
  tick_fits : (q : Point) → tick_of q length < u32_values
  tick_fits start = omega arith
  tick_fits end = omega arith

  wanted_fits :
      (from to : ℕ) (v : Bool) (w : Word) → from < u32_values → to < u32_values
      → ConditionFits (record { step = step; fact = number_of w words; from = from; to = to; value = bit v })
  wanted_fits from to v w a b = record { step = early; fact = number_fits w words few; from = a; to = b; value = bit_fits v }

  condition_at_fits : (q : When) (v : Bool) (w : Word) → Every ConditionFits (condition_at words step length q v w)
  unfolding condition_at
  condition_at_fits at_start v w = (wanted_fits 0 0 v w (omega arith) (omega arith), tt)
  condition_at_fits over_all v w =
      ⊎_elim
      (λ (t : nothing_inside length ≡ true). rw t tt)
      (λ (f : nothing_inside length ≡ false). rw f (wanted_fits 1 (length - 1) v w (omega arith) (omega arith), tt))
      (either (nothing_inside length))
  condition_at_fits at_end v w = (wanted_fits length length v w (omega arith) (omega arith), tt)

  condition_fits : (s : Said) → Every ConditionFits (condition_in words step length s)
  unfolding condition_in
  condition_fits (name (fact (wanted q) v) w) = condition_at_fits q v w
  condition_fits (name (fact (set q) v) w) = tt
  condition_fits (name (fact reached v) w) = tt
  condition_fits (name (fact given v) w) = tt
  condition_fits (name (rise q) w) = tt
  condition_fits (name (fall q) w) = tt
  condition_fits (name action w) = tt
  condition_fits (name stock w) = tt
  condition_fits (name planned w) = tt
  condition_fits (number n) = tt

  pub conditions_fit : (is : List Item) → Every ConditionFits (conditions_in words step length is)
  unfolding conditions_in
  conditions_fit [] = tt
  conditions_fit (i ∷ is) =
      every_append ConditionFits (condition_in words step length i.said) (conditions_in words step length is)
      (condition_fits i.said)
      (conditions_fit is)

  effect_fits : (s : Said) → Every EffectFits (effect_in words step length s)
  unfolding effect_in
  effect_fits (name (fact (set q) v) w) =
      (record { step = early; fact = number_fits w words few; at = tick_fits q; value = bit_fits v }, tt)
  effect_fits (name (fact (wanted q) v) w) = tt
  effect_fits (name (fact reached v) w) = tt
  effect_fits (name (fact given v) w) = tt
  effect_fits (name (rise q) w) = tt
  effect_fits (name (fall q) w) = tt
  effect_fits (name action w) = tt
  effect_fits (name stock w) = tt
  effect_fits (name planned w) = tt
  effect_fits (number n) = tt

  pub effects_fit : (is : List Item) → Every EffectFits (effects_in words step length is)
  unfolding effects_in
  effects_fit [] = tt
  effects_fit (i ∷ is) =
      every_append EffectFits (effect_in words step length i.said) (effects_in words step length is)
      (effect_fits i.said)
      (effects_fit is)

  use_fits : (s : Said) (n : ℕ) → n < 1000000000 → Every UseFits (use_in words step length s n)
  unfolding use_in
  use_fits (name (rise q) w) n h = (record { step = early; level = number_fits w words few; at = tick_fits q; amount = omega arith }, tt)
  use_fits (name (fall q) w) n h = (record { step = early; level = number_fits w words few; at = tick_fits q; amount = omega arith }, tt)
  use_fits (name (fact p v) w) n h = tt
  use_fits (name action w) n h = tt
  use_fits (name stock w) n h = tt
  use_fits (name planned w) n h = tt
  use_fits (number m) n h = tt

  pub uses_fit : (is : List Item) → Small is → Every UseFits (uses_in words step length is)
  unfolding uses_in
  uses_fit [] s = tt
  uses_fit (i ∷ is) s =
      every_append UseFits (use_in words step length i.said (leading is)) (uses_in words step length is)
      (use_fits i.said (leading is) (small_leading is s.1))
      (uses_fit is s.1)

-- the records of all steps, if those of a step fit
module _ {A : Type 0} (P : A → Type 0) (f : ℕ → ℕ → List Item → List A)
    (each : (step length : ℕ) → step < u16_values → length < 1000000000 → (is : List Item) → Small is → Every P (f step length is))
    (is : List Item) (s : Small is) where
  pub steps_fit : (step : ℕ) (ls : List Line) → step + length ls < u16_values → Every SmallLine ls → Every P (by_step f is step ls)
  unfolding by_step
  steps_fit step [] h e = tt
  steps_fit step (l ∷ ls) h e =
      every_append P (f step l.duration (body (behind l.action is))) (by_step f is (suc step) ls)
      (each step l.duration (omega arith) e.0.duration (body (behind l.action is)) (small_body _ (small_behind l.action is s)))
      (steps_fit (suc step) ls (omega arith) e.1)
