-- The latest starts to which timed facts lower the steps are those of the definition.
use Prim.Native.Nat.{ℕ, ◌+◌, ◌-◌, ◌≤◌, ◌<◌}
use mathlib.Core.Path.{◌≡◌, sym, ap, subst, ◌∙◌}
use mathlib.Core.List.{List}
use mathlib.Core.Logic.{inl, inr, ⊎_elim}
use native.Mathlib.Decide.{ℕ_discrete}
use native.Mathlib.Omega.{arith}
use Rattle.job.specs.Model.{Model, timed_of}
use Rattle.job.specs.Clocked.{clocked}
use Rattle.validity.specs.Ticks.{schedule_of, effect_tick}
use Rattle.points.specs.Points.{Setter, Wanting}
use Rattle.order_file.specs.Contents.{no_latest, gap_bias}
use Rattle.order_file.specs.Table.{start_in}
use Rattle.orders.specs.Gaps.{support_gap, opposing_gap, condition_gap}
use Rattle.orders.specs.Windows.{clock_gap}
use Rattle.orders.proofs.Limits.{clock_unbound, clock_bound}
use Rattle.orders.proofs.Orders.{Opposer}
use Rattle.limits.specs.Timed.{TimedPoints, AllAre, ClockLatest}
use Rattle.moves.specs.Moved.{Down, Moved, Among}
use Rattle.limits.specs.Beside.{Sooner, Ended, OfSetters, OfWanted, LatestBy}
use Rattle.orders.proofs.Bounds.{support_le, opposing_le, opposing_ge, condition_le, after_ge, clock_ge, clock_le}
use Rattle.limits.proofs.Grouped.{sooner_found, sooner_known, ended_found, ended_known}
use Rattle.limits.proofs.Clock.{timed_known, timed_step, timed_offset, timed_fact_lem, timed_value_lem, timed_tick_lem, timed_opposes, of_clock}
use Rattle.limits.proofs.Clock.{clock_opposes, of_step_lem, own_step_lem, own_fact, own_offset, own_value, own_tick, ends_before}

module _ {m : Model} {starts points begins : List ℕ} (w : TimedPoints m starts points begins) where
  abbrev M : Model
  M = clocked m

  abbrev x : ℕ → ℕ
  x = schedule_of starts

  -- an order of rule 2 or 3 from step k to the clock
  abbrev Order : ℕ → ℕ → Type 0
  Order = Among 0 m.timed (LatestBy m x points begins)

  -- the definition's gap is at least that of each, so that it leaves no later start
  setter_under :
      (j k v : ℕ) → j < m.timed → OfSetters points begins (m.timed_fact j) (Sooner x (timed_of m j)) k v
      → (gap_bias ≤ v + clock_gap M x k m.steps) × (0 < clock_gap M x k m.steps)
  setter_under j k v h o =
      let q = sooner_known x m.effect_at m.effect_value m.effect_step (Setter m (m.timed_fact j)) points _ _
      (w.known.setters (m.timed_fact j) (w.form.timed_fact j h)) (timed_of m j) k v o
      in
      let f = q.0 in
      let e = q.1.0 in
      let opposer : Opposer M (M.effect_fact (m.effects + j)) (M.effect_value (m.effects + j)) f =
      record {
        known = omega (arith, e);
        of_fact = own_fact w f e ∙ q.1.1 ∙ sym (timed_fact_lem w j);
        not_value = λ z. q.2 (sym (own_value w f e) ∙ z ∙ timed_value_lem w j);
      }
      in
      let gap = opposing_ge M x k m.steps f (m.effects + j) (timed_known w j h) (own_step_lem w f e ∙ q.4) (timed_step w j) opposer
      (omega (arith, timed_tick_lem w j, own_tick w f e, q.3))
      in
      let most = w.form.timed_tick j h in (
        omega (arith, gap, (clock_ge M x k m.steps).1, timed_offset w j, own_offset w f e, q.5, q.3, most),
        omega (arith, gap, (clock_ge M x k m.steps).1, timed_offset w j, own_offset w f e, most),
      )

  wanted_under :
      (j k v : ℕ) → j < m.timed → OfWanted m points begins (m.timed_fact j) (Ended m (timed_of m j)) k v
      → (gap_bias ≤ v + clock_gap M x k m.steps) × (0 < clock_gap M x k m.steps)
  wanted_under j k v h o =
      let q = ended_known x m.condition_from m.condition_value m.condition_step (Wanting m (m.timed_fact j)) points _ _
      (w.known.wanted (m.timed_fact j) (w.form.timed_fact j h)) (timed_of m j) k m v o
      in
      let c = q.0 in
      let i = q.1.0 in
      let end = ends_before w c j i h q.1.1 q.2 q.3 in
      let gap = after_ge M x k m.steps c (m.effects + j) i q.4 (timed_step w j)
      (timed_opposes w j (m.condition_fact c) (m.condition_value c) h q.1.1 q.2)
      (omega (arith, timed_tick_lem w j, end))
      in
      let most = w.form.timed_tick j h in (
        omega (arith, gap, (clock_ge M x k m.steps).2, timed_offset w j, q.5, end, most),
        omega (arith, gap, (clock_ge M x k m.steps).2, timed_offset w j, most),
      )

  under : (k v : ℕ) → Order k v → (gap_bias ≤ v + clock_gap M x k m.steps) × (0 < clock_gap M x k m.steps)
  under k v p =
      ⊎_elim
      (λ (q : OfSetters points begins (m.timed_fact p.0) (Sooner x (timed_of m p.0)) k v). setter_under p.0 k v p.2 q)
      (λ (q : OfWanted m points begins (m.timed_fact p.0) (Ended m (timed_of m p.0)) k v). wanted_under p.0 k v p.2 q)
      p.3

  -- and it leaves every start that each leaves
  module _ (k : ℕ) (h : k < m.steps) (start : ℕ) (all : (v : ℕ) → Order k v → start ≤ v) where
    opposing_over : opposing_gap M x k m.steps ≤ gap_bias - start
    opposing_over =
        opposing_le M x k m.steps (gap_bias - start)
        (λ e f r s t o b.
        let j = of_clock w f r t in
        let i = of_step_lem w e k o.known h s in
        let at : effect_tick M x f ≡ m.timed_tick j.0 = ap (effect_tick M x) j.2 ∙ timed_tick_lem w j.0 in
        let off : M.effect_at f ≡ m.timed_tick j.0 = ap M.effect_at j.2 ∙ timed_offset w j.0 in
        let fact : m.effect_fact e ≡ m.timed_fact j.0 =
        sym (own_fact w e i) ∙ o.of_fact ∙ ap M.effect_fact j.2 ∙ timed_fact_lem w j.0
        in
        let value : M.effect_value f ≡ m.timed_value j.0 = ap M.effect_value j.2 ∙ timed_value_lem w j.0 in
        let soon : x (m.effect_step e) + m.effect_at e < m.timed_tick j.0 = omega (arith, at, own_tick w e i, b) in
        let found = sooner_found x m.effect_at m.effect_value m.effect_step (Setter m (m.timed_fact j.0)) points _ _
        (w.known.setters (m.timed_fact j.0) (w.form.timed_fact j.0 j.1)) (timed_of m j.0) k e (i, fact)
        (λ z. o.not_value (own_value w e i ∙ z ∙ sym value)) soon (sym (own_step_lem w e i) ∙ s)
        in
        omega (
          arith,
          off,
          own_offset w e i,
          soon,
          w.form.timed_tick j.0 j.1,
          all _ (j.0, omega arith, j.1, inl found),
        ))

    condition_over : condition_gap M x k m.steps ≤ gap_bias - start
    condition_over =
        condition_le M x k m.steps (gap_bias - start)
        (λ c e i s t o b. absurd (omega (arith, t, w.form.condition_step c i)))
        (λ c e i s t o b.
        let j = of_clock w e o.known t in
        let at : effect_tick M x e ≡ m.timed_tick j.0 = ap (effect_tick M x) j.2 ∙ timed_tick_lem w j.0 in
        let off : M.effect_at e ≡ m.timed_tick j.0 = ap M.effect_at j.2 ∙ timed_offset w j.0 in
        let d = clock_opposes w j.0 (m.condition_fact c) (m.condition_value c)
        (subst (Opposer M (m.condition_fact c) (m.condition_value c)) j.2 o)
        in
        let found = ended_found x m.condition_from m.condition_value m.condition_step (Wanting m (m.timed_fact j.0)) points _ _
        (w.known.wanted (m.timed_fact j.0) (w.form.timed_fact j.0 j.1)) (timed_of m j.0) k m c (i, d.0)
        d.1 (omega (arith, at, b, w.form.condition_span c i)) s
        in
        omega (
          arith,
          off,
          at,
          b,
          w.form.timed_tick j.0 j.1,
          all _ (j.0, omega arith, j.1, inr found),
        ))

    support_over : support_gap M x k m.steps ≤ gap_bias - start
    support_over =
        support_le M x k m.steps (gap_bias - start) (λ c i n s t. absurd (omega (arith, t, w.form.condition_step c i)))

    over : clock_gap M x k m.steps ≤ gap_bias - start
    over = clock_le M x k m.steps (gap_bias - start) support_over opposing_over condition_over

  -- the theorem: lowered from none by timed facts
  pub latest_are : {before after : List ℕ} → AllAre no_latest before → Moved Down Order before after → ClockLatest m x after
  latest_are {before} {after} z a =
      record {
        size = a.size ∙ z.size;
        each = λ k h.
            let none : start_in before k ≡ no_latest = z.each k (omega (arith, h, w.form.step_count)) in
            elim (ℕ_discrete (clock_gap M x k m.steps) 0) [
              | yes q ↦
                  omega (
                    arith,
                    clock_unbound M x k q,
                    a.moves k,
                    none,
                    a.least k no_latest (omega (arith, none)) (λ v o. absurd (omega (arith, q, (under k v o).1))),
                  )
              | no q ↦
                  omega (
                    arith,
                    q,
                    clock_bound M x k q,
                    over k h (start_in after k) (λ v o. a.reaches k v o),
                    a.least k (gap_bias - clock_gap M x k m.steps) (omega (arith, none)) (λ v o. omega (arith, (under k v o).0)),
                  )
            ];
      }
