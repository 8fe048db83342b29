-- What the words of a job's points are made of lies within the spans.
use Prim.Native.Nat.{ℕ, ◌+◌, ◌-◌, ◌≤◌, ◌<◌}
use mathlib.Core.Path.{◌≡◌, refl}
use native.Mathlib.Omega.{arith}
use borrow.Author.Tests.{le-ltb}
use Rattle.timeline.specs.Words.{word_of, step_span, value_span, number_span, group_span}
use Rattle.job.specs.Model.{Model, last_timed}
use Rattle.job.specs.WellFormed.{Ranged}
use Rattle.job.specs.Clocked.{clocked}
use Rattle.validity.specs.Ticks.{effect_tick}
use Rattle.point_words.specs.Words.{effect_word}

-- What the words of a job are made of, but for a start: no offset lies after the last tick of a timed fact.
pub record Parts (g first last k v s : ℕ) : Type 0 where
  pub group : g < group_span
  pub rises : first ≤ last
  pub within : last ≤ last_timed
  pub number : k < number_span
  pub value : v < value_span
  pub step : s < step_span

module _ {m : Model} (form : Ranged m) where
  pub condition_parts : (c : ℕ) → c < m.conditions
      → Parts (m.facts + m.condition_fact c) (m.condition_from c) (m.condition_to c) c (m.condition_value c) (m.condition_step c)
  condition_parts c h =
      let step = form.condition_step c h in
      record {
        group = omega (arith, form.condition_fact c h);
        rises = form.condition_span c h;
        within = omega (arith, form.condition_end c h, form.length_range (m.condition_step c) step);
        number = omega arith;
        value = omega (arith, form.condition_value c h);
        step = omega arith;
      }

  pub effect_parts : (e : ℕ) → e < m.effects → Parts (m.effect_fact e) (m.effect_at e) (m.effect_at e) e (m.effect_value e) (m.effect_step e)
  effect_parts e h =
      let step = form.effect_step e h in
      record {
        group = omega (arith, form.effect_fact e h);
        rises = omega arith;
        within = omega (arith, form.effect_end e h, form.length_range (m.effect_step e) step);
        number = omega arith;
        value = omega (arith, form.effect_value e h);
        step = omega arith;
      }

  pub timed_parts : (j : ℕ) → j < m.timed → Parts (m.timed_fact j) (m.timed_tick j) (m.timed_tick j) (m.effects + j) (m.timed_value j) m.steps
  timed_parts j h =
      record {
        group = omega (arith, form.timed_fact j h);
        rises = omega arith;
        within = form.timed_tick j h;
        number = omega (arith, form.effect_count, form.timed_count);
        value = omega (arith, form.timed_value j h);
        step = omega (arith, form.step_count);
      }

  pub use_parts : (u : ℕ) → u < m.uses → Parts (m.facts + m.facts + m.use_level u) (m.use_at u) (m.use_at u) u 0 (m.use_step u)
  use_parts u h =
      let step = form.use_step u h in
      record {
        group = omega (arith, form.use_level u h);
        rises = omega arith;
        within = omega (arith, form.use_end u h, form.length_range (m.use_step u) step);
        number = omega arith;
        value = omega arith;
        step = omega arith;
      }

  pub need_parts : (n : ℕ) → n < m.needs
      → Parts (m.facts + m.facts + m.levels + m.need_level n) (m.need_at n) (m.need_at n) n 0 (m.need_step n)
  need_parts n h =
      let step = form.need_step n h in
      record {
        group = omega (arith, form.need_level n h);
        rises = omega arith;
        within = omega (arith, form.need_end n h, form.length_range (m.need_step n) step);
        number = omega arith;
        value = omega arith;
        step = omega arith;
      }

-- The word and the tick of a timed fact, as an effect of the clock.
pub clock_word :
    (m : Model) (x : ℕ → ℕ) (j : ℕ)
    → (word_of (m.timed_fact j) (x m.steps + m.timed_tick j) (m.effects + j) (m.timed_value j) m.steps ≡ effect_word (clocked m) x (m.effects + j))
    × (x m.steps + m.timed_tick j ≡ effect_tick (clocked m) x (m.effects + j))
clock_word m x j =
    let back : m.effects + j - m.effects ≡ j = omega arith in
    rw (le-ltb (m.effects + j) m.effects (omega arith), back) (refl, refl)
