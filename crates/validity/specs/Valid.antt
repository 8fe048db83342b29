-- "When a timing is sound": one field a sentence, over all ticks and any natural starts.
use Rattle.std.specs.Prelude.{ℕ, suc, ◌+◌, ◌≤◌, ◌<◌, ◌≡◌}
use Rattle.job.specs.Model.{Model}
use Rattle.job.specs.Model.{no_deadline}
use Rattle.validity.specs.Ticks.{effect_tick, first_tick, last_tick}
use Rattle.validity.specs.Seen.{seen, after_all}
use Rattle.validity.specs.Levels.{rises_before, falls_before, falls_against, risen_to}

pub record Valid (m : Model) (x : ℕ → ℕ) : Type 0 where
  -- no two steps' opposing effects share a tick
  pub effects_apart :
      (e f : ℕ) → e < m.effects → f < m.effects → (m.effect_step e ≡ m.effect_step f → ⊥) → m.effect_fact e ≡ m.effect_fact f
      → effect_tick m x e ≡ effect_tick m x f
      → m.effect_value e ≡ m.effect_value f
  -- at each tick of a condition the value seen is the wanted one
  pub condition_seen :
      (c t : ℕ) → c < m.conditions → first_tick m x c ≤ t → t ≤ last_tick m x c → seen m x (m.condition_fact c) t ≡ m.condition_value c
  -- no other step's opposing effect lies at a tick from its first to its last
  pub condition_kept :
      (c e : ℕ) → c < m.conditions → e < m.effects → (m.effect_step e ≡ m.condition_step c → ⊥) → m.effect_fact e ≡ m.condition_fact c
      → first_tick m x c ≤ effect_tick m x e
      → effect_tick m x e ≤ last_tick m x c
      → m.effect_value e ≡ m.condition_value c
  -- the level from earlier ticks plus all that tick's falls is at least the least
  pub level_low :
      (l t : ℕ) → l < m.levels → m.level_least l + falls_before m x l (suc t) ≤ m.level_initial l + rises_before m x l t
  -- that level plus all that tick's rises is at most the most
  pub level_high :
      (l t : ℕ) → l < m.levels → m.level_initial l + rises_before m x l (suc t) ≤ m.level_most l + falls_before m x l t
  -- the level from earlier ticks, plus all other steps' falls at its tick, reaches the need's least
  pub need_met : (n : ℕ) → n < m.needs → m.need_least n + falls_against m x n ≤ risen_to m x n
  -- after all effects each goal has its value
  pub goal_reached : (g : ℕ) → g < m.goals → seen m x (m.goal_fact g) (after_all m x) ≡ m.goal_value g
  -- a goal with a deadline has it seen at every tick after the deadline
  pub goal_in_time :
      (g t : ℕ) → g < m.goals → (m.goal_deadline g ≡ no_deadline → ⊥) → m.goal_deadline g < t → seen m x (m.goal_fact g) t ≡ m.goal_value g
  -- a fixed step has its written start
  pub fixed_kept : (k : ℕ) → k < m.steps → m.fixed k ≡ 1 → x k ≡ m.start k
