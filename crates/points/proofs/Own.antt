-- The points of a job without timed facts.
use Prim.Native.Nat.{ℕ, ◌<◌}
use mathlib.Core.Path.{◌≡◌, refl, sym, ◌∙◌}
use mathlib.Core.List.{List}
use native.Mathlib.Omega.{arith}
use Rattle.job.specs.declared.layout.Job.{Job}
use Rattle.job.specs.Model.{Model, view}
use Rattle.job.specs.WellFormed.{Ranged}
use Rattle.job.specs.Clocked.{clocked}
use Rattle.job.proofs.Clocked.{of_effect}
use Rattle.job.specs.Laid.{Laid}
use Rattle.timeline.specs.Placed.{Placed}
use Rattle.validity.specs.Ticks.{effect_tick}
use Rattle.points.specs.Points.{Setter, PointsKnown}
use Rattle.point_words.specs.Own.{untimed}
use Rattle.points.specs.Words.{PointRoom}

-- the tick of a step's effect
pub own_tick : (m : Model) (x : ℕ → ℕ) (e : ℕ) → e < m.effects → effect_tick (clocked m) x e ≡ effect_tick m x e
own_tick m x e h =
    rw (of_effect m m.effect_step (λ _. m.steps) e h, of_effect m m.effect_at m.timed_tick e h)

module _ (m : Model) (none : m.timed ≡ 0) where
  own : (e : ℕ) → e < (clocked m).effects → e < m.effects
  own e h = omega (arith, none)

  own_setters :
      (x : ℕ → ℕ) {points : List ℕ} {low high : ℕ} (f : ℕ)
      → Placed (Setter (clocked m) f) (effect_tick (clocked m) x) (clocked m).effect_value (clocked m).effect_step points low high
      → Placed (Setter m f) (effect_tick m x) m.effect_value m.effect_step points low high
  own_setters x f group =
      record {
        begins = group.begins;
        ends = group.ends;
        holds = λ p l g.
            let is = group.holds p l g in
            let h = own _ is.0 in
            (h, sym (of_effect m m.effect_fact m.timed_fact _ h) ∙ is.1);
        found = λ k is. group.found k (omega (arith, is.0), of_effect m m.effect_fact m.timed_fact k is.0 ∙ is.1);
        ticks = λ p l g. group.ticks p l g ∙ own_tick m x _ (own _ (group.holds p l g).0);
        values = λ p l g. group.values p l g ∙ of_effect m m.effect_value m.timed_value _ (own _ (group.holds p l g).0);
        steps = λ p l g. group.steps p l g ∙ of_effect m m.effect_step (λ _. m.steps) _ (own _ (group.holds p l g).0);
        rises = group.rises;
        ordered = group.ordered;
      }

  pub own_known : (x : ℕ → ℕ) {points begins : List ℕ} → PointsKnown (clocked m) x points begins → PointsKnown m x points begins
  own_known x k =
      record {
        room = k.room;
        setters = λ f h. own_setters x f (k.setters f h);
        wanted = λ f h. k.wanted f h;
        used = λ l h. k.used l h;
        needed = λ l h. k.needed l h;
      }

-- a job whose timed facts are left out
module _ (j : Job) (s : List ℕ) where
  pub untimed_ranged : Ranged (view j s) → Ranged (view (untimed j) s)
  unfolding untimed
  untimed_ranged w =
      record {
        fact_count = w.fact_count;
        level_count = w.level_count;
        step_count = w.step_count;
        condition_count = w.condition_count;
        effect_count = w.effect_count;
        use_count = w.use_count;
        timed_count = omega arith;
        need_count = w.need_count;
        initial_value = w.initial_value;
        length_range = w.length_range;
        condition_step = w.condition_step;
        condition_fact = w.condition_fact;
        condition_span = w.condition_span;
        condition_end = w.condition_end;
        condition_value = w.condition_value;
        effect_step = w.effect_step;
        effect_fact = w.effect_fact;
        effect_end = w.effect_end;
        effect_value = w.effect_value;
        use_step = w.use_step;
        use_level = w.use_level;
        use_end = w.use_end;
        timed_fact = λ k h. absurd (omega arith);
        timed_tick = λ k h. absurd (omega arith);
        timed_value = λ k h. absurd (omega arith);
        need_step = w.need_step;
        need_level = w.need_level;
        need_end = w.need_end;
        need_from = w.need_from;
        need_to = w.need_to;
      }

  pub untimed_laid : Laid j s → Laid (untimed j) s
  unfolding untimed
  untimed_laid w =
      record {
        steps = w.steps;
        conditions = w.conditions;
        effects = w.effects;
        uses = w.uses;
        timed = omega (arith, w.timed);
        needs = w.needs;
      }

  pub untimed_room :
      {spare points begins : List ℕ} → PointRoom (view j s) spare points begins
      → PointRoom (clocked (view (untimed j) s)) spare points begins
  unfolding untimed
  untimed_room r = record { listed = omega (arith, r.listed); sorted = omega (arith, r.sorted); grouped = r.grouped }

  pub untimed_known :
      (x : ℕ → ℕ) {points begins : List ℕ} → PointsKnown (clocked (view (untimed j) s)) x points begins → PointsKnown (view j s) x points begins
  unfolding untimed
  untimed_known x k =
      let own = own_known (view (untimed j) s) refl x k in
      record { room = own.room; setters = own.setters; wanted = own.wanted; used = own.used; needed = own.needed }
