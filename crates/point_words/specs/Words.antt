-- Between crates: the points of a job as words.
use Rattle.std.specs.Prelude.{ℕ, ◌+◌}
use Rattle.timeline.specs.Words.{word_of}
use Rattle.job.specs.Model.{Model}
use Rattle.validity.specs.Ticks.{effect_tick, first_tick, use_tick, need_tick}

-- the words of a condition, an effect, a use and a need, in groups: the setters of each fact, the conditions of each fact, the uses of each
-- level, the needs of each level; a use and a need have no value, so their words have 0
abbrev pub condition_word : Model → (ℕ → ℕ) → ℕ → ℕ
condition_word m x c = word_of (m.facts + m.condition_fact c) (first_tick m x c) c (m.condition_value c) (m.condition_step c)

abbrev pub effect_word : Model → (ℕ → ℕ) → ℕ → ℕ
effect_word m x e = word_of (m.effect_fact e) (effect_tick m x e) e (m.effect_value e) (m.effect_step e)

abbrev pub use_word : Model → (ℕ → ℕ) → ℕ → ℕ
use_word m x u = word_of (m.facts + m.facts + m.use_level u) (use_tick m x u) u 0 (m.use_step u)

abbrev pub need_word : Model → (ℕ → ℕ) → ℕ → ℕ
need_word m x n = word_of (m.facts + m.facts + m.levels + m.need_level n) (need_tick m x n) n 0 (m.need_step n)
