-- A well-formed job with its timed facts among its effects.
use Prim.Native.Nat.{ℕ, ◌+◌, ◌-◌, ◌≤◌, ◌<◌}
use mathlib.Core.Path.{◌≡◌, refl, sym, ◌∙◌}
use native.Mathlib.Decide.{dec_lt}
use native.Mathlib.Omega.{arith}
use borrow.Author.Tests.{lt-ltb, le-ltb}
use Rattle.job.specs.Model.{Model, longest, last_timed}
use Rattle.job.specs.WellFormed.{WellFormed}
use Rattle.job.specs.Clocked.{behind, clocked, with_clock, ClockedForm}

module _ (m : Model) where
  -- what is said of an effect, and of a timed fact
  pub of_effect : (f g : ℕ → ℕ) (e : ℕ) → e < m.effects → behind m f g e ≡ f e
  of_effect f g e l = rw (lt-ltb e m.effects l) refl

  pub of_timed : (f g : ℕ → ℕ) (e : ℕ) → m.effects ≤ e → behind m f g e ≡ g (e - m.effects)
  of_timed f g e l = rw (le-ltb e m.effects l) refl

  -- what holds of every effect and of every timed fact holds of both behind each other
  pub of_both :
      (P : ℕ → Type 0) (f g : ℕ → ℕ) → ((e : ℕ) → e < m.effects → P (f e)) → ((j : ℕ) → j < m.timed → P (g j)) → (e : ℕ)
      → e < m.effects + m.timed
      → P (behind m f g e)
  of_both P f g a b e l =
      elim (dec_lt e m.effects) [
        | yes h ↦ rw (of_effect f g e h) (a e h)
        | no h ↦ rw (of_timed f g e (omega arith)) (b (e - m.effects) (omega arith))
      ]

  -- a schedule with the clock's start has the steps' starts
  pub clock_kept : (x : ℕ → ℕ) (k : ℕ) → k < m.steps → with_clock m x k ≡ x k
  clock_kept x k l = rw (lt-ltb k m.steps l) refl

  pub clock_start : (x : ℕ → ℕ) → with_clock m x m.steps ≡ 0
  clock_start x = rw (le-ltb m.steps m.steps (omega arith)) refl

-- a well-formed job
module _ (m : Model) (w : WellFormed m) where
  abbrev M : Model
  M = clocked m

  pub step_near : (e : ℕ) → e < m.effects → m.effect_at e ≤ longest
  step_near e l = omega (arith, w.effect_end e l, w.length_range (m.effect_step e) (w.effect_step e l))

  -- an effect of a step is no timed fact
  own_effect : (e : ℕ) → e < M.effects → M.effect_step e < m.steps → e < m.effects
  own_effect e l h =
      elim (dec_lt e m.effects) [
        | yes i ↦ i
        | no i ↦ absurd (omega (arith, h, of_timed m m.effect_step (λ _. m.steps) e (omega arith)))
      ]

  one_way_lem :
      (e f : ℕ) → e < M.effects → f < M.effects → M.effect_step e ≡ M.effect_step f → M.effect_fact e ≡ M.effect_fact f
      → M.effect_at e ≡ M.effect_at f
      → M.effect_value e ≡ M.effect_value f
  one_way_lem e f a b =
      elim (dec_lt e m.effects) [
        | yes h ↦
            elim (dec_lt f m.effects) [
              | yes i ↦ rw (lt-ltb e m.effects h, lt-ltb f m.effects i) (w.one_way e f h i)
              | no i ↦
                  rw (lt-ltb e m.effects h, le-ltb f m.effects (omega arith))
                  (λ (z : m.effect_step e ≡ m.steps) _ _. absurd (omega (arith, w.effect_step e h)))
            ]
        | no h ↦
            elim (dec_lt f m.effects) [
              | yes i ↦
                  rw (le-ltb e m.effects (omega arith), lt-ltb f m.effects i)
                  (λ (z : m.steps ≡ m.effect_step f) _ _. absurd (omega (arith, w.effect_step f i)))
              | no i ↦
                  rw (le-ltb e m.effects (omega arith), le-ltb f m.effects (omega arith))
                  (λ _. w.timed_one_way (e - m.effects) (f - m.effects) (omega arith) (omega arith))
            ]
      ]

  keeps_own_lem :
      (e c : ℕ) → e < M.effects → c < m.conditions → M.effect_step e ≡ m.condition_step c → M.effect_fact e ≡ m.condition_fact c
      → m.condition_from c ≤ M.effect_at e
      → M.effect_at e < m.condition_to c
      → M.effect_value e ≡ m.condition_value c
  keeps_own_lem e c a b s =
      let h : e < m.effects = own_effect e a (omega (arith, s, w.condition_step c b)) in
      rw (
        of_effect m m.effect_fact m.timed_fact e h,
        of_effect m m.effect_at m.timed_tick e h,
        of_effect m m.effect_value m.timed_value e h,
      )
      (w.keeps_own e c h b (sym (of_effect m m.effect_step (λ _. m.steps) e h) ∙ s))

  pub clocked_form : ClockedForm M
  clocked_form =
      record {
        fact_count = w.fact_count;
        level_count = w.level_count;
        step_count = w.step_count;
        condition_count = w.condition_count;
        effect_count = omega (arith, w.effect_count, w.timed_count);
        use_count = w.use_count;
        goal_count = w.goal_count;
        need_count = w.need_count;
        initial_value = w.initial_value;
        level_from = w.level_from;
        level_low = w.level_low;
        level_high = w.level_high;
        level_to = w.level_to;
        start_range = w.start_range;
        length_range = w.length_range;
        fixed_mark = w.fixed_mark;
        condition_step = w.condition_step;
        condition_fact = w.condition_fact;
        condition_span = w.condition_span;
        condition_end = w.condition_end;
        condition_value = w.condition_value;
        effect_step =
            of_both m (λ n. n ≤ m.steps) m.effect_step (λ _. m.steps) (λ e l. omega (arith, w.effect_step e l)) (λ _ _. omega arith);
        effect_fact = of_both m (λ n. n < m.facts) m.effect_fact m.timed_fact w.effect_fact w.timed_fact;
        effect_near = of_both m (λ n. n ≤ last_timed) m.effect_at m.timed_tick (λ e l. omega (arith, step_near e l)) w.timed_tick;
        step_effect_near = λ e l h.
            rw (of_effect m m.effect_at m.timed_tick e (own_effect e l h)) (step_near e (own_effect e l h));
        effect_value = of_both m (λ n. n ≤ 1) m.effect_value m.timed_value w.effect_value w.timed_value;
        use_step = w.use_step;
        use_level = w.use_level;
        use_end = w.use_end;
        use_from = w.use_from;
        use_to = w.use_to;
        use_not_zero = w.use_not_zero;
        goal_fact = w.goal_fact;
        goal_value = w.goal_value;
        goal_deadline = w.goal_deadline;
        need_step = w.need_step;
        need_level = w.need_level;
        need_end = w.need_end;
        need_from = w.need_from;
        need_to = w.need_to;
        one_way = one_way_lem;
        one_use = w.one_use;
        keeps_own = keeps_own_lem;
      }
