-- The timed facts of a fact in the order of their ticks.
use Prim.Native.Nat.{ℕ, ◌+◌, ◌-◌, ◌<◌}
use mathlib.Core.Path.{◌≡◌, refl, sym, ap, ◌∙◌}
use mathlib.Core.List.{List}
use native.Mathlib.Omega.{arith}
use lib.ListN.{length, get_or}
use Rattle.timeline.specs.Words.{number_at}
use Rattle.timeline.specs.Placed.{Placed}
use Rattle.job.specs.declared.layout.Job.{Job}
use Rattle.job.specs.Layout.{most_timed}
use Rattle.job.specs.Model.{Model, view}
use Rattle.job.specs.WellFormed.{WellFormed, Ranged}
use Rattle.job.specs.Clocked.{behind, clocked}
use Rattle.job.proofs.Clocked.{of_timed}
use Rattle.job.specs.Laid.{Laid}
use Rattle.validity.specs.Ticks.{effect_tick}
use Rattle.points.specs.Points.{Setter, PointsKnown}
use Rattle.points.specs.Words.{PointRoom}
use Rattle.moves.specs.Others.{Row}
use Rattle.limits.specs.Known.{only_timed, mark_count, TimedOf, TimedKnown}

-- a job without effects
module _ (m : Model) (none : m.effects ≡ 0) (x : ℕ → ℕ) (clock : x m.steps ≡ 0) where
  timed_at : (f g : ℕ → ℕ) (j : ℕ) → behind m f g j ≡ g j
  timed_at f g j =
      let e : j - m.effects ≡ j = omega (arith, none) in
      of_timed m f g j (omega (arith, none)) ∙ ap g e

  timed_placed :
      (f : ℕ) {order : List ℕ} {low high : ℕ}
      → Placed (Setter (clocked m) f) (effect_tick (clocked m) x) (clocked m).effect_value (clocked m).effect_step order low high
      → Placed (TimedOf m f) m.timed_tick m.timed_value (λ _. m.steps) order low high
  timed_placed f {order} g =
      record {
        begins = g.begins;
        ends = g.ends;
        holds = λ p a b.
            let is = g.holds p a b in
            (omega (arith, none, is.0), sym (timed_at m.effect_fact m.timed_fact _) ∙ is.1);
        found = λ j is. g.found j (omega (arith, is.0), timed_at m.effect_fact m.timed_fact j ∙ is.1);
        ticks = λ p a b.
            let n = number_at order p in
            omega (
              arith,
              g.ticks p a b,
              ap x (timed_at m.effect_step (λ _. m.steps) n),
              timed_at m.effect_at m.timed_tick n,
              clock,
            );
        values = λ p a b. g.values p a b ∙ timed_at m.effect_value m.timed_value _;
        steps = λ p a b. g.steps p a b ∙ timed_at m.effect_step (λ _. m.steps) _;
        rises = g.rises;
        ordered = g.ordered;
      }

-- the job of which only the timed facts are left
module _ (j : Job) (s : List ℕ) where
  pub only_ranged : Ranged (view j s) → Ranged (view (only_timed j) s)
  unfolding only_timed
  only_ranged w =
      record {
        fact_count = w.fact_count;
        level_count = omega arith;
        step_count = w.step_count;
        condition_count = omega arith;
        effect_count = omega arith;
        use_count = omega arith;
        timed_count = w.timed_count;
        need_count = omega arith;
        initial_value = w.initial_value;
        length_range = w.length_range;
        condition_step = λ k h. absurd (omega arith);
        condition_fact = λ k h. absurd (omega arith);
        condition_span = λ k h. absurd (omega arith);
        condition_end = λ k h. absurd (omega arith);
        condition_value = λ k h. absurd (omega arith);
        effect_step = λ k h. absurd (omega arith);
        effect_fact = λ k h. absurd (omega arith);
        effect_end = λ k h. absurd (omega arith);
        effect_value = λ k h. absurd (omega arith);
        use_step = λ k h. absurd (omega arith);
        use_level = λ k h. absurd (omega arith);
        use_end = λ k h. absurd (omega arith);
        timed_fact = w.timed_fact;
        timed_tick = w.timed_tick;
        timed_value = w.timed_value;
        need_step = λ k h. absurd (omega arith);
        need_level = λ k h. absurd (omega arith);
        need_end = λ k h. absurd (omega arith);
        need_from = λ k h. absurd (omega arith);
        need_to = λ k h. absurd (omega arith);
      }

  pub only_laid : Laid j s → Laid (only_timed j) s
  unfolding only_timed
  only_laid w =
      record {
        steps = w.steps;
        conditions = omega (arith, w.conditions);
        effects = omega (arith, w.effects);
        uses = omega (arith, w.uses);
        timed = w.timed;
        needs = omega (arith, w.needs);
      }

  pub only_room :
      {spare order marks : List ℕ} → Ranged (view j s) → length spare ≡ most_timed → length order ≡ most_timed → length marks ≡ mark_count
      → PointRoom (clocked (view (only_timed j) s)) spare order marks
  unfolding only_timed
  only_room w a b c =
      record {
        listed = omega (arith, w.timed_count, b);
        sorted = omega (arith, w.timed_count, a);
        grouped = omega (arith, w.fact_count, c);
      }

  pub only_known :
      (x : ℕ → ℕ) {order marks : List ℕ} → x j.count.steps ≡ 0 → PointsKnown (clocked (view (only_timed j) s)) x order marks
      → TimedKnown (view j s) order marks
  unfolding only_timed
  only_known x clock k =
      record {
        room = λ f h. omega (arith, h, k.room);
        placed = λ f h.
            let g = timed_placed (view (only_timed j) s) refl x clock f (k.setters f h) in
            record {
              begins = g.begins;
              ends = g.ends;
              holds = g.holds;
              found = g.found;
              ticks = g.ticks;
              values = g.values;
              steps = g.steps;
              rises = g.rises;
              ordered = g.ordered;
            };
      }

-- the timed facts of fact f
pub timed_row_lem :
    {m : Model} {order marks : List ℕ} (w : WellFormed m) (k : TimedKnown m order marks) (f : ℕ) → f < m.facts → {from until : ℕ}
    → from ≡ get_or marks f 0
    → until ≡ get_or marks (f + 1) 0
    → Row order from until
timed_row_lem {order = order} w k f h a b =
    rw (a, b)
    (let g = k.placed f h in
    record {
      begins = g.begins;
      ends = g.ends;
      rises = g.rises;
      late = λ p c d. omega (arith, g.ticks p c d, w.timed_tick (number_at order p) (g.holds p c d).0);
    })
