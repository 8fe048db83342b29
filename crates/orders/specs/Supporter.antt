-- Orders from a sound job, rule 1, in plain words: what a condition or goal is linked to. x is the schedule by whose ticks it is found.
-- `before` holds of the ticks that count: for a condition those "before its first tick", "for a goal" those "of all" effects.
use Rattle.std.specs.Prelude.{ℕ, ◌+◌, ◌≤◌, ◌<◌, ◌≡◌, true, ◌⊎◌}
use Rattle.job.specs.Model.{Model}
use Rattle.validity.specs.Ticks.{effect_tick, first_tick, gives, opposes}
use Rattle.order_file.specs.Contents.{initial_state}

-- an "effect after that which gives the wanted value": after the last opposing effect before, so after each of them
pub record Candidate (m : Model) (x : ℕ → ℕ) (fact value : ℕ) (before : ℕ → Type 0) (e : ℕ) : Type 0 where
  pub known : e < m.effects
  pub wanted : gives m e fact value ≡ true
  pub after :
      (f : ℕ) → f < m.effects → opposes m f fact value ≡ true → before (effect_tick m x f) → effect_tick m x f < effect_tick m x e

-- of two at one tick a tie goes to e: "first to the condition's own step, then to the lower effect number, then to a timed fact", whose
-- numbers come after those of all effects. `own` holds of the effects of the own step
pub data TieTo (own : ℕ → Type 0) (e f : ℕ) : Type 0 where
  own_step : own e → (own f → ⊥) → TieTo own e f
  lower_number : (own f → own e) → e ≤ f → TieTo own e f

-- "The supporter is the earliest" of them, by that tie; it "lies strictly before the condition's first tick"
pub record Supporter (m : Model) (x : ℕ → ℕ) (fact value : ℕ) (before own : ℕ → Type 0) (e : ℕ) : Type 0 where
  pub candidate : Candidate m x fact value before e
  pub earliest :
      (f : ℕ) → Candidate m x fact value before f
      → (effect_tick m x e < effect_tick m x f) ⊎ ((effect_tick m x e ≡ effect_tick m x f) × TieTo own e f)
  pub in_time : before (effect_tick m x e)

-- "With no opposing effect before, and the initial value as wanted"
pub record Initially (m : Model) (x : ℕ → ℕ) (fact value : ℕ) (before : ℕ → Type 0) : Type 0 where
  pub wanted : m.initial fact ≡ value
  pub unopposed : (f : ℕ) → f < m.effects → opposes m f fact value ≡ true → before (effect_tick m x f) → ⊥

-- then "the initial state supports", and else the supporter. This leaves one link: of two supporters each would come before the other
pub data LinkedTo (m : Model) (x : ℕ → ℕ) (fact value : ℕ) (before own : ℕ → Type 0) (link : ℕ) : Type 0 where
  by_initial_state : link ≡ initial_state → Initially m x fact value before → LinkedTo m x fact value before own link
  by_effect :
      (Initially m x fact value before → ⊥) → Supporter m x fact value before own link → LinkedTo m x fact value before own link

-- the link of condition c, whose own step's effects come first of a tie
abbrev pub ConditionLinkedTo : Model → (ℕ → ℕ) → ℕ → ℕ → Type 0
ConditionLinkedTo m x c link =
    LinkedTo m x (m.condition_fact c) (m.condition_value c) (λ tick. tick < first_tick m x c) (λ e. m.effect_step e ≡ m.condition_step c) link

-- the link of goal g, for which every tick counts: "Goals keep the old tie", by the number alone
abbrev pub GoalLinkedTo : Model → (ℕ → ℕ) → ℕ → ℕ → Type 0
GoalLinkedTo m x g link = LinkedTo m x (m.goal_fact g) (m.goal_value g) (λ tick. Unit {0}) (λ e. ⊥) link

-- "one for each condition, then each goal": links by their numbers, each what its condition or goal is linked to, and nothing else is that
pub record LinksSupported (m : Model) (x link : ℕ → ℕ) : Type 0 where
  pub condition : (c : ℕ) → c < m.conditions → ConditionLinkedTo m x c (link c)
  pub condition_only : (c e : ℕ) → c < m.conditions → ConditionLinkedTo m x c e → e ≡ link c
  pub goal : (g : ℕ) → g < m.goals → GoalLinkedTo m x g (link (m.conditions + g))
  pub goal_only : (g e : ℕ) → g < m.goals → GoalLinkedTo m x g e → e ≡ link (m.conditions + g)
