-- The points of a timed fact's fact: where they stand, and what each of them is.
use Prim.Native.Nat.{ℕ, ◌+◌, ◌≤◌, ◌<◌}
use mathlib.Core.Path.{◌≡◌, sym, ap, ◌∙◌}
use mathlib.Core.List.{List}
use native.Mathlib.Omega.{arith}
use lib.ListN.{get_or}
use Rattle.timeline.specs.Words.{step_at, tick_at, value_at, number_at}
use Rattle.timeline.specs.Placed.{Placed}
use Rattle.job.specs.declared.records.TimedFact.{TimedFact}
use Rattle.job.specs.Model.{Model}
use Rattle.validity.specs.Ticks.{schedule_of}
use Rattle.points.specs.Points.{Setter, Wanting}
use Rattle.limits.specs.Timed.{TimedPoints}
use Rattle.moves.specs.Moved.{start_after, start_before}
use Rattle.limits.specs.Beside.{Later, Sooner, Ended, OfWords, Begun, Wanted}

-- points of steps, each so far into its step
module _ (x at value step : ℕ → ℕ) (P : ℕ → Type 0) (points : List ℕ) (low high : ℕ)
    (g : Placed P (λ n. x (step n) + at n) value step points low high) where
  placed_begun : (many : ℕ) → ((n : ℕ) → P n → step n < many) → Begun many x points low high
  placed_begun many h =
      record {
        spanned = record {
          begins = g.begins;
          ends = g.ends;
          step = λ p a b. omega (arith, g.steps p a b, h (number_at points p) (g.holds p a b));
          rises = g.rises;
        };
        begun = λ p a b. omega (arith, g.ticks p a b, ap x (g.steps p a b));
      }

  -- the orders of the points are those of the records
  module _ (timed : TimedFact) (k : ℕ) where
    pub later_found :
        (n : ℕ) → P n → (value n ≡ timed.value → ⊥) → timed.tick < x (step n) + at n → step n ≡ k
        → OfWords points low high (Later x timed) k (start_after timed.tick (at n))
    later_found n h d l s =
        let f = g.found n h in
        let p = f.0 in
        let t : tick_at points p ≡ x (step n) + at n = g.ticks p f.1 f.2 ∙ ap (λ q. x (step q) + at q) f.3 in
        let r : step_at points p ≡ step n = g.steps p f.1 f.2 ∙ ap step f.3 in
        let v : value_at points p ≡ value n = g.values p f.1 f.2 ∙ ap value f.3 in
        (p, f.1, f.2, (λ q. d (sym v ∙ q), omega (arith, t), r ∙ s, ap (start_after timed.tick) (omega (arith, t, ap x r))))

    pub later_known :
        (v : ℕ) → OfWords points low high (Later x timed) k v
        → (n : ℕ) × P n × (value n ≡ timed.value → ⊥) × (timed.tick < x (step n) + at n) × (step n ≡ k)
        × (v ≡ start_after timed.tick (at n))
    later_known v o =
        let p = o.0 in
        let w = o.3 in
        let t = g.ticks p o.1 o.2 in
        let r = g.steps p o.1 o.2 in (
          number_at points p,
          g.holds p o.1 o.2,
          λ q. w.0 (g.values p o.1 o.2 ∙ q),
          omega (arith, t, w.1),
          sym r ∙ w.2,
          w.3 ∙ ap (start_after timed.tick) (omega (arith, t, ap x r)),
        )

    pub sooner_found :
        (n : ℕ) → P n → (value n ≡ timed.value → ⊥) → x (step n) + at n < timed.tick → step n ≡ k
        → OfWords points low high (Sooner x timed) k (start_before timed.tick (at n))
    sooner_found n h d l s =
        let f = g.found n h in
        let p = f.0 in
        let t : tick_at points p ≡ x (step n) + at n = g.ticks p f.1 f.2 ∙ ap (λ q. x (step q) + at q) f.3 in
        let r : step_at points p ≡ step n = g.steps p f.1 f.2 ∙ ap step f.3 in
        let v : value_at points p ≡ value n = g.values p f.1 f.2 ∙ ap value f.3 in
        (p, f.1, f.2, (λ q. d (sym v ∙ q), omega (arith, t), r ∙ s, ap (start_before timed.tick) (omega (arith, t, ap x r))))

    pub sooner_known :
        (v : ℕ) → OfWords points low high (Sooner x timed) k v
        → (n : ℕ) × P n × (value n ≡ timed.value → ⊥) × (x (step n) + at n < timed.tick) × (step n ≡ k)
        × (v ≡ start_before timed.tick (at n))
    sooner_known v o =
        let p = o.0 in
        let w = o.3 in
        let t = g.ticks p o.1 o.2 in
        let r = g.steps p o.1 o.2 in (
          number_at points p,
          g.holds p o.1 o.2,
          λ q. w.0 (g.values p o.1 o.2 ∙ q),
          omega (arith, t, w.1),
          sym r ∙ w.2,
          w.3 ∙ ap (start_before timed.tick) (omega (arith, t, ap x r)),
        )

    module _ (m : Model) where
      pub ended_found :
          (n : ℕ) → P n → (value n ≡ timed.value → ⊥) → x (step n) + at n < timed.tick → step n ≡ k
          → OfWords points low high (Ended m timed) k (start_before timed.tick (m.condition_to n))
      ended_found n h d l s =
          let f = g.found n h in
          let p = f.0 in
          let t : tick_at points p ≡ x (step n) + at n = g.ticks p f.1 f.2 ∙ ap (λ q. x (step q) + at q) f.3 in
          let r : step_at points p ≡ step n = g.steps p f.1 f.2 ∙ ap step f.3 in
          let v : value_at points p ≡ value n = g.values p f.1 f.2 ∙ ap value f.3 in (
            p,
            f.1,
            f.2,
            (λ q. d (sym v ∙ q), omega (arith, t), r ∙ s, ap (λ q. start_before timed.tick (m.condition_to q)) (sym f.3)),
          )

      pub ended_known :
          (v : ℕ) → OfWords points low high (Ended m timed) k v
          → (n : ℕ) × P n × (value n ≡ timed.value → ⊥) × (x (step n) + at n < timed.tick) × (step n ≡ k)
          × (v ≡ start_before timed.tick (m.condition_to n))
      ended_known v o =
          let p = o.0 in
          let w = o.3 in (
            number_at points p,
            g.holds p o.1 o.2,
            λ q. w.0 (g.values p o.1 o.2 ∙ q),
            omega (arith, g.ticks p o.1 o.2, w.1),
            sym (g.steps p o.1 o.2) ∙ w.2,
            w.3,
          )

-- those of fact f
module _ {m : Model} {starts points begins : List ℕ} (w : TimedPoints m starts points begins) {f : ℕ} (h : f < m.facts) {many low high : ℕ}
    (few : m.steps ≤ many) where
  pub fact_setters : low ≡ get_or begins f 0 → high ≡ get_or begins (f + 1) 0 → Begun many (schedule_of starts) points low high
  fact_setters a b =
      rw (a, b)
      (placed_begun (schedule_of starts) m.effect_at m.effect_value m.effect_step (Setter m f) points _ _
      (w.known.setters f h) many (λ n i. omega (arith, w.form.effect_step n i.0)))

  pub fact_wanted :
      low ≡ get_or begins (m.facts + f) 0 → high ≡ get_or begins (m.facts + f + 1) 0 → Begun many (schedule_of starts) points low high
  fact_wanted a b =
      rw (a, b)
      (placed_begun (schedule_of starts) m.condition_from m.condition_value m.condition_step (Wanting m f) points _ _
      (w.known.wanted f h) many (λ n i. omega (arith, w.form.condition_step n i.0)))

  pub fact_known : low ≡ get_or begins (m.facts + f) 0 → high ≡ get_or begins (m.facts + f + 1) 0 → Wanted m many points low high
  fact_known a b =
      rw (a, b)
      (let g = w.known.wanted f h in
      record {
        spanned = record {
          begins = g.begins;
          ends = g.ends;
          step = λ p c d. omega (arith, g.steps p c d, w.form.condition_step (number_at points p) (g.holds p c d).0);
          rises = g.rises;
        };
        known = λ p c d. (g.holds p c d).0;
      })
