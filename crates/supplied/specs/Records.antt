-- The records that a step of a plan brings: "conditions, effects and uses go by step, then as in the action".
use Rattle.std.specs.Prelude.{ℕ, suc, ◌+◌, ◌-◌, Bool, true, false, cond, List, [], ◌∷◌, ◌++◌, ltb}
use Rattle.little_endian.specs.Bytes.{sign_bias}
use Rattle.grammar.specs.Said.{When, at_start, over_all, at_end, Point, start, end, wanted, set, reached, given}
use Rattle.grammar.specs.Said.{action, fact, rise, fall, stock, planned, Said, name, number, Item}
use Rattle.grammar.specs.Tree.{Word}
use Rattle.job.specs.declared.records.Goal.{Goal}
use Rattle.job.specs.declared.records.Condition.{Condition}
use Rattle.job.specs.declared.records.Effect.{Effect}
use Rattle.job.specs.declared.records.Use.{Use}
use Rattle.job.specs.Model.{no_deadline}
use Rattle.supplied.specs.Names.{number_of}
use Rattle.supplied.specs.Plan.{Line, behind, leading}

-- whether something belongs to the action before it: it is no other action, and of neither init nor the goal
unfoldable pub in_action : Said → Bool
in_action (number n) = true
in_action (name (fact (wanted q) v) w) = true
in_action (name (fact (set q) v) w) = true
in_action (name (fact reached v) w) = false
in_action (name (fact given v) w) = false
in_action (name (rise q) w) = true
in_action (name (fall q) w) = true
in_action (name action w) = false
in_action (name stock w) = false
in_action (name planned w) = false

-- what comes first and belongs to the action
unfoldable pub body : List Item → List Item
body [] = []
body (i ∷ is) = cond (in_action i.said) (i ∷ body is) []

abbrev pub bit : Bool → ℕ
bit true = 1
bit false = 0

-- the tick of a point of a step of some length
abbrev pub tick_of : Point → ℕ → ℕ
tick_of start length = 0
tick_of end length = length

-- "An over all with a duration under 2 ticks gives no condition."
abbrev pub nothing_inside : ℕ → Bool
nothing_inside length = ltb length 2

module _ (words : List Word) (step length : ℕ) where
  abbrev wanted_from : ℕ → ℕ → Bool → Word → List Condition
  wanted_from from to v w = record { step = step; fact = number_of w words; from = from; to = to; value = bit v } ∷ []

  unfoldable pub condition_at : When → Bool → Word → List Condition
  condition_at at_start v w = wanted_from 0 0 v w
  condition_at over_all v w = cond (nothing_inside length) [] (wanted_from 1 (length - 1) v w)
  condition_at at_end v w = wanted_from length length v w

  unfoldable pub condition_in : Said → List Condition
  condition_in (name (fact (wanted q) v) w) = condition_at q v w
  condition_in (name (fact (set q) v) w) = []
  condition_in (name (fact reached v) w) = []
  condition_in (name (fact given v) w) = []
  condition_in (name (rise q) w) = []
  condition_in (name (fall q) w) = []
  condition_in (name action w) = []
  condition_in (name stock w) = []
  condition_in (name planned w) = []
  condition_in (number n) = []

  unfoldable pub conditions_in : List Item → List Condition
  conditions_in [] = []
  conditions_in (i ∷ is) = condition_in i.said ++ conditions_in is

  unfoldable pub effect_in : Said → List Effect
  effect_in (name (fact (set q) v) w) = record { step = step; fact = number_of w words; at = tick_of q length; value = bit v } ∷ []
  effect_in (name (fact (wanted q) v) w) = []
  effect_in (name (fact reached v) w) = []
  effect_in (name (fact given v) w) = []
  effect_in (name (rise q) w) = []
  effect_in (name (fall q) w) = []
  effect_in (name action w) = []
  effect_in (name stock w) = []
  effect_in (name planned w) = []
  effect_in (number n) = []

  unfoldable pub effects_in : List Item → List Effect
  effects_in [] = []
  effects_in (i ∷ is) = effect_in i.said ++ effects_in is

  abbrev use_of : Point → Word → ℕ → List Use
  use_of q w amount = record { step = step; level = number_of w words; at = tick_of q length; amount = amount } ∷ []

  -- a level that rises or falls by the number behind it
  unfoldable pub use_in : Said → ℕ → List Use
  use_in (name (rise q) w) n = use_of q w (sign_bias + n)
  use_in (name (fall q) w) n = use_of q w (sign_bias - n)
  use_in (name (fact p v) w) n = []
  use_in (name action w) n = []
  use_in (name stock w) n = []
  use_in (name planned w) n = []
  use_in (number m) n = []

  unfoldable pub uses_in : List Item → List Use
  uses_in [] = []
  uses_in (i ∷ is) = use_in i.said (leading is) ++ uses_in is

-- what the plan's lines bring, one after the other, numbered from a step on: a line, what its action says, and its duration
unfoldable pub by_step : {A : Type 0} → (ℕ → ℕ → List Item → List A) → List Item → ℕ → List Line → List A
by_step f is s [] = []
by_step f is s (l ∷ ls) = f s l.duration (body (behind l.action is)) ++ by_step f is (suc s) ls

-- "goals as written"
unfoldable pub goal_in : List Word → Said → List Goal
goal_in words (name (fact reached v) w) = record { fact = number_of w words; value = bit v; deadline = no_deadline } ∷ []
goal_in words (name (fact (wanted q) v) w) = []
goal_in words (name (fact (set q) v) w) = []
goal_in words (name (fact given v) w) = []
goal_in words (name (rise q) w) = []
goal_in words (name (fall q) w) = []
goal_in words (name action w) = []
goal_in words (name stock w) = []
goal_in words (name planned w) = []
goal_in words (number n) = []

unfoldable pub goals_in : List Word → List Item → List Goal
goals_in words [] = []
goals_in words (i ∷ is) = goal_in words i.said ++ goals_in words is
