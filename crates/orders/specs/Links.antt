-- Orders from a sound job, rule 1: the link of a condition or goal is its supporter. x is the schedule by whose ticks it is found.
use Rattle.std.specs.Prelude.{ℕ, ◌-◌, Bool, false, ◌&&◌, cond, ltb, leb, eqb}
use Rattle.laws.specs.Search.{lowest}
use Rattle.laws.specs.Fold.{least}
use Rattle.job.specs.Model.{Model}
use Rattle.validity.specs.Ticks.{effect_tick, first_tick, gives}
use Rattle.validity.specs.Seen.{last_given, after_all}
use Rattle.order_file.specs.Contents.{initial_state}

-- the other of the two values
abbrev pub other : ℕ → ℕ
other value = 1 - value

-- one more than the tick of the last opposing effect before tick t; 0 for none
abbrev pub last_opposing : Model → (ℕ → ℕ) → ℕ → ℕ → ℕ → ℕ
last_opposing m x fact value t = last_given m x fact (other value) t

-- an effect that gives the wanted value after the last opposing effect before tick t
unfoldable pub producer : Model → (ℕ → ℕ) → ℕ → ℕ → ℕ → ℕ → Bool
producer m x fact value t e = gives m e fact value && leb (last_opposing m x fact value t) (effect_tick m x e)

-- the tick of the earliest producer
unfoldable pub earliest_produced : Model → (ℕ → ℕ) → ℕ → ℕ → ℕ → ℕ
earliest_produced m x fact value t =
    least m.effects (after_all m x) (λ e. cond (producer m x fact value t e) (effect_tick m x e) (after_all m x))

-- an earliest producer
unfoldable pub tied : Model → (ℕ → ℕ) → ℕ → ℕ → ℕ → ℕ → Bool
tied m x fact value t e = producer m x fact value t e && eqb (effect_tick m x e) (earliest_produced m x fact value t)

-- whom a tie goes to first: a step or, as for goals, nobody
pub data Favoured : Type 0 where
  nobody : Favoured
  the_step : ℕ → Favoured

unfoldable pub favours : Model → Favoured → ℕ → Bool
favours m nobody e = false
favours m (the_step k) e = eqb (m.effect_step e) k

-- "A condition's tie now goes first to the condition's own step, then to the lower effect number, then to a timed fact": these have the
-- numbers after all effects
unfoldable pub supporter : Model → (ℕ → ℕ) → Favoured → ℕ → ℕ → ℕ → ℕ
supporter m x own fact value t =
    let first = lowest m.effects (λ e. tied m x fact value t e && favours m own e) in
    cond (ltb first m.effects) first (lowest m.effects (tied m x fact value t))

-- "With no opposing effect before, and the initial value as wanted, the initial state supports"
unfoldable pub link_of : Model → (ℕ → ℕ) → Favoured → ℕ → ℕ → ℕ → ℕ
link_of m x own fact value t =
    cond (eqb (last_opposing m x fact value t) 0 && eqb (m.initial fact) value) initial_state (supporter m x own fact value t)

-- the link of a condition: before its first tick
unfoldable pub condition_link : Model → (ℕ → ℕ) → ℕ → ℕ
condition_link m x c = link_of m x (the_step (m.condition_step c)) (m.condition_fact c) (m.condition_value c) (first_tick m x c)

-- the link of a goal: of all effects. "Goals keep the old tie"
unfoldable pub goal_link : Model → (ℕ → ℕ) → ℕ → ℕ
goal_link m x g = link_of m x nobody (m.goal_fact g) (m.goal_value g) (after_all m x)

-- "one for each condition, then each goal": all links in one list
unfoldable pub nth_link : Model → (ℕ → ℕ) → ℕ → ℕ
nth_link m x j = cond (ltb j m.conditions) (condition_link m x j) (goal_link m x (j - m.conditions))
