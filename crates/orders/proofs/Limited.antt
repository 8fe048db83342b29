-- Limits and latest starts are those of the plain record. A timed fact is an effect of the clock, so what lies after or before it is an order
-- of rules 1 to 3 from or to the clock, and each such order is one of these.
use Prim.Native.Nat.{ℕ, ◌+◌, ◌-◌, ◌≤◌, ◌<◌}
use mathlib.Core.Path.{◌≡◌, refl, sym, ap, subst, ◌∙◌}
use mathlib.Core.Bool.{true, false, ◌&&◌, not}
use mathlib.Core.Logic.{⊎_elim}
use native.Mathlib.Decide.{ℕ_discrete, dec_lt}
use native.Mathlib.Omega.{arith}
use borrow.Author.Tests.{eqb-true, eqb-false, not-true}
use lib.Dec.{eqb}
use Rattle.laws.proofs.Search.{either, and_both}
use Rattle.laws.proofs.Fold.{least_le, least_ge}
use Rattle.job.specs.Model.{Model, longest, last_timed, no_deadline}
use Rattle.job.specs.WellFormed.{WellFormed}
use Rattle.job.specs.Clocked.{clocked, ClockedForm}
use Rattle.job.proofs.Clocked.{of_effect, of_timed, clocked_form, step_near}
use Rattle.validity.specs.Ticks.{effect_tick, first_tick, last_tick}
use Rattle.validity.specs.Valid.{Valid}
use Rattle.order_file.specs.Contents.{initial_state, no_latest, gap_bias}
use Rattle.orders.specs.Links.{condition_link, goal_link}
use Rattle.orders.specs.Gaps.{strictly}
use Rattle.orders.specs.Windows.{clock_gap, limit_of, allowed, latest_of}
use Rattle.orders.specs.Supporter.{ConditionLinkedTo}
use Rattle.orders.specs.Limited.{EffectOpposed, ConditionOpposed, ConditionTimed, PointAfter, effect_after, condition_after, supported_after}
use Rattle.orders.specs.Limited.{PointBefore, effect_before, condition_before, GoalDue, Limited}
use Rattle.orders.proofs.Near.{from_near}
use Rattle.orders.proofs.Supporter.{linked_once, condition_supported, goal_supported}
use Rattle.orders.proofs.Links.{goal_link_in_time}
use Rattle.orders.proofs.Limits.{limit_fixed, limit_free, latest_fixed, latest_free, clock_unbound, clock_bound, allowed_linked}
use Rattle.orders.proofs.Orders.{Opposer}
use Rattle.orders.proofs.Within.{link_known}
use Rattle.orders.proofs.Bounds.{support_le, support_ge, opposing_le, opposing_ge, condition_le, before_ge, after_ge, clock_le, clock_ge}

module _ (m : Model) (x : ℕ → ℕ) (w : WellFormed m) (v : Valid (clocked m) x) (zero : x m.steps ≡ 0) where
  abbrev M : Model
  M = clocked m

  abbrev n : ℕ
  n = m.steps

  form : ClockedForm M
  form = clocked_form m w

  -- what is said of a timed fact by its number behind all effects
  timed_step : (j : ℕ) → M.effect_step (m.effects + j) ≡ n
  timed_step j = of_timed m m.effect_step (λ _. n) (m.effects + j) (omega arith)

  timed_fact_lem : (j : ℕ) → M.effect_fact (m.effects + j) ≡ m.timed_fact j
  timed_fact_lem j = of_timed m m.effect_fact m.timed_fact (m.effects + j) (omega arith) ∙ ap m.timed_fact (omega arith)

  timed_at : (j : ℕ) → M.effect_at (m.effects + j) ≡ m.timed_tick j
  timed_at j = of_timed m m.effect_at m.timed_tick (m.effects + j) (omega arith) ∙ ap m.timed_tick (omega arith)

  timed_value_lem : (j : ℕ) → M.effect_value (m.effects + j) ≡ m.timed_value j
  timed_value_lem j = of_timed m m.effect_value m.timed_value (m.effects + j) (omega arith) ∙ ap m.timed_value (omega arith)

  timed_tick_lem : (j : ℕ) → effect_tick M x (m.effects + j) ≡ m.timed_tick j
  timed_tick_lem j = let e : x (M.effect_step (m.effects + j)) ≡ x n = ap x (timed_step j) in omega (arith, e, timed_at j)

  -- an effect of the clock is a timed fact, and one of a step is not
  of_clock : (e : ℕ) → e < M.effects → M.effect_step e ≡ n → (j : ℕ) × (j < m.timed) × (e ≡ m.effects + j)
  of_clock e l s =
      elim (dec_lt e m.effects) [
        | yes h ↦ absurd (omega (arith, w.effect_step e h, of_effect m m.effect_step (λ _. n) e h))
        | no h ↦ (e - m.effects, omega arith, omega arith)
      ]

  of_step_lem : (e k : ℕ) → e < M.effects → k < n → M.effect_step e ≡ k → e < m.effects
  of_step_lem e k l b s =
      elim (dec_lt e m.effects) [
        | yes h ↦ h
        | no h ↦ absurd (omega (arith, of_timed m m.effect_step (λ _. n) e (omega arith)))
      ]

  own_step_lem : (e : ℕ) → e < m.effects → M.effect_step e ≡ m.effect_step e
  own_step_lem e l = of_effect m m.effect_step (λ _. n) e l

  own_fact : (e : ℕ) → e < m.effects → M.effect_fact e ≡ m.effect_fact e
  own_fact e l = of_effect m m.effect_fact m.timed_fact e l

  own_at : (e : ℕ) → e < m.effects → M.effect_at e ≡ m.effect_at e
  own_at e l = of_effect m m.effect_at m.timed_tick e l

  own_value : (e : ℕ) → e < m.effects → M.effect_value e ≡ m.effect_value e
  own_value e l = of_effect m m.effect_value m.timed_value e l

  own_tick : (e k : ℕ) → e < m.effects → m.effect_step e ≡ k → effect_tick M x e ≡ x k + m.effect_at e
  own_tick e k l s = let q : x (M.effect_step e) ≡ x k = ap x (own_step_lem e l ∙ s) in omega (arith, q, own_at e l)

  first_tick_lem : (c k : ℕ) → m.condition_step c ≡ k → first_tick M x c ≡ x k + m.condition_from c
  first_tick_lem c k s = let q : x (m.condition_step c) ≡ x k = ap x s in omega (arith, q)

  last_tick_lem : (c k : ℕ) → m.condition_step c ≡ k → last_tick M x c ≡ x k + m.condition_to c
  last_tick_lem c k s = let q : x (m.condition_step c) ≡ x k = ap x s in omega (arith, q)

  -- the timed fact opposes the effect, and the effect the timed fact
  opposes_effect :
      {k point T : ℕ} (e j : ℕ) → EffectOpposed m k point T e j → Opposer M (M.effect_fact e) (M.effect_value e) (m.effects + j)
  opposes_effect e j o =
      let l = o.known.0 in
      record {
        known = omega (arith, o.known.1);
        of_fact = timed_fact_lem j ∙ sym o.same_fact ∙ sym (own_fact e l);
        not_value = λ q. o.other_value (sym (own_value e l) ∙ sym q ∙ timed_value_lem j);
      }

  opposes_timed :
      {k point T : ℕ} (e j : ℕ) → EffectOpposed m k point T e j
      → Opposer M (M.effect_fact (m.effects + j)) (M.effect_value (m.effects + j)) e
  opposes_timed e j o =
      let l = o.known.0 in
      record {
        known = omega (arith, l);
        of_fact = own_fact e l ∙ o.same_fact ∙ sym (timed_fact_lem j);
        not_value = λ q. o.other_value (sym (own_value e l) ∙ q ∙ timed_value_lem j);
      }

  opposes_condition : {k T : ℕ} (c j : ℕ) → ConditionOpposed m k T c j → Opposer M (m.condition_fact c) (m.condition_value c) (m.effects + j)
  opposes_condition c j o =
      record {
        known = omega (arith, o.known.1);
        of_fact = timed_fact_lem j ∙ sym o.same_fact;
        not_value = λ q. o.other_value (sym q ∙ timed_value_lem j);
      }

  -- and what opposes a condition by the clock is a timed fact
  opposed_condition :
      (c k e : ℕ) → c < m.conditions → m.condition_step c ≡ k → (z : (i : ℕ) × (i < m.timed) × (e ≡ m.effects + i))
      → Opposer M (m.condition_fact c) (m.condition_value c) e
      → ConditionOpposed m k (m.timed_tick z.0) c z.0
  opposed_condition c k e l t z o =
      record {
        known = (l, z.1);
        of_step = t;
        tick = refl;
        same_fact = sym o.of_fact ∙ ap M.effect_fact z.2 ∙ timed_fact_lem z.0;
        other_value = λ q. o.not_value (ap M.effect_value z.2 ∙ timed_value_lem z.0 ∙ sym q);
      }

  -- each point after a timed fact is an order from the clock
  after_gap : (k point T : ℕ) → k < n → PointAfter m x k point T → (strictly T point ≤ clock_gap M x n k) × (point ≤ longest)
  after_gap k point T b (effect_after e j o l) =
      let h = o.known.0 in
      let g =
      opposing_ge M x n k (m.effects + j) e (omega (arith, h)) (timed_step j) (own_step_lem e h ∙ o.of_step) (opposes_effect e j o)
      (omega (arith, timed_tick_lem j, o.tick, own_tick e k h o.of_step, o.at))
      in
      (omega (arith, g, timed_at j, o.tick, own_at e h, o.at, (clock_ge M x n k).1), omega (arith, step_near m w e h, o.at))
  after_gap k point T b (condition_after c j o f l) =
      let h = o.known.0 in
      let g =
      before_ge M x n k c (m.effects + j) h (timed_step j) o.of_step (opposes_condition c j o)
      (omega (arith, timed_tick_lem j, o.tick, first_tick_lem c k o.of_step, f))
      in
      (omega (arith, g, timed_at j, o.tick, f, (clock_ge M x n k).2), omega (arith, from_near M form c h, f))
  after_gap k point T b (supported_after c j o f) =
      let h = o.known.0 in
      let q : condition_link M x c ≡ m.effects + j =
      linked_once M x _ _ _ _ (condition_link M x c) (m.effects + j) (condition_supported M x form v c h) o.linked
      in
      let g =
      support_ge M x n k c h (λ (z : condition_link M x c ≡ initial_state). omega (arith, q, w.effect_count, w.timed_count, o.known.1))
      (ap M.effect_step q ∙ timed_step j) o.of_step
      in
      let a : M.effect_at (condition_link M x c) ≡ T = ap M.effect_at q ∙ timed_at j ∙ o.tick in
      (omega (arith, g, a, f, (clock_ge M x n k).0), omega (arith, from_near M form c h, f))

  -- and each order from the clock is one of these
  gap_after :
      (k bound : ℕ) → k < n → ((point T : ℕ) → PointAfter m x k point T → strictly T point ≤ bound) → clock_gap M x n k ≤ bound
  gap_after k bound b h = clock_le M x n k bound (support_le M x n k bound by_link) (opposing_le M x n k bound by_effect_lem)
      (condition_le M x n k bound by_condition (λ c e l s. absurd (omega (arith, w.condition_step c l))))
    where
      by_link :
          (c : ℕ) → c < m.conditions → (condition_link M x c ≡ initial_state → ⊥) → M.effect_step (condition_link M x c) ≡ n
          → m.condition_step c ≡ k
          → strictly (M.effect_at (condition_link M x c)) (m.condition_from c) ≤ bound
      by_link c l i s t =
          let e = condition_link M x c in
          let p = condition_supported M x form v c l in
          let known : e < M.effects = ⊎_elim (λ (q : e < M.effects). q) (λ (q : e ≡ initial_state). absurd (i q)) (link_known M x _ _ _ _ e p) in
          let z = of_clock e known s in
          let j = z.0 in
          let o : ConditionTimed m x k (m.timed_tick j) c j =
          record { known = (l, z.1); of_step = t; tick = refl; linked = subst (ConditionLinkedTo M x c) z.2 p }
          in
          let a : M.effect_at e ≡ m.timed_tick j = ap M.effect_at z.2 ∙ timed_at j in
          omega (arith, a, h (m.condition_from c) (m.timed_tick j) (supported_after c j o refl))

      by_effect_lem :
          (e f : ℕ) → f < M.effects → M.effect_step e ≡ n → M.effect_step f ≡ k → Opposer M (M.effect_fact f) (M.effect_value f) e
          → effect_tick M x e < effect_tick M x f
          → strictly (M.effect_at e) (M.effect_at f) ≤ bound
      by_effect_lem e f l s t o less =
          let z = of_clock e o.known s in
          let j = z.0 in
          let r = of_step_lem f k l b t in
          let step : m.effect_step f ≡ k = sym (own_step_lem f r) ∙ t in
          let p : EffectOpposed m k (m.effect_at f) (m.timed_tick j) f j =
          record {
            known = (r, z.1);
            of_step = step;
            at = refl;
            tick = refl;
            same_fact = sym (own_fact f r) ∙ sym o.of_fact ∙ ap M.effect_fact z.2 ∙ timed_fact_lem j;
            other_value = λ q. o.not_value (ap M.effect_value z.2 ∙ timed_value_lem j ∙ sym q ∙ sym (own_value f r));
          }
          in
          let a : M.effect_at e ≡ m.timed_tick j = ap M.effect_at z.2 ∙ timed_at j in
          let u : effect_tick M x e ≡ m.timed_tick j = ap (effect_tick M x) z.2 ∙ timed_tick_lem j in
          omega (
            arith,
            a,
            own_at f r,
            h (m.effect_at f) (m.timed_tick j) (effect_after f j p (omega (arith, u, own_tick f k r step))),
          )

      by_condition :
          (c e : ℕ) → c < m.conditions → M.effect_step e ≡ n → m.condition_step c ≡ k → Opposer M (m.condition_fact c) (m.condition_value c) e
          → effect_tick M x e < first_tick M x c
          → strictly (M.effect_at e) (m.condition_from c) ≤ bound
      by_condition c e l s t o less =
          let z = of_clock e o.known s in
          let j = z.0 in
          let p = opposed_condition c k e l t z o in
          let a : M.effect_at e ≡ m.timed_tick j = ap M.effect_at z.2 ∙ timed_at j in
          let u : effect_tick M x e ≡ m.timed_tick j = ap (effect_tick M x) z.2 ∙ timed_tick_lem j in
          omega (arith, a, h (m.condition_from c) (m.timed_tick j) (condition_after c j p refl (omega (arith, u, first_tick_lem c k t))))

  -- each point before a timed fact is an order to the clock
  before_gap : (k point T : ℕ) → k < n → PointBefore m x k point T → (strictly point T ≤ clock_gap M x k n) × (T ≤ last_timed) × (point < T)
  before_gap k point T b (effect_before e j o l) =
      let h = o.known.0 in
      let g =
      opposing_ge M x k n e (m.effects + j) (omega (arith, o.known.1)) (own_step_lem e h ∙ o.of_step) (timed_step j) (opposes_timed e j o)
      (omega (arith, timed_tick_lem j, o.tick, own_tick e k h o.of_step, o.at))
      in
      (omega (arith, g, timed_at j, o.tick, own_at e h, o.at, (clock_ge M x k n).1), omega (arith, w.timed_tick j o.known.1, o.tick), omega arith)
  before_gap k point T b (condition_before c j o f l) =
      let h = o.known.0 in
      let g =
      after_ge M x k n c (m.effects + j) h o.of_step (timed_step j) (opposes_condition c j o)
      (omega (arith, timed_tick_lem j, o.tick, last_tick_lem c k o.of_step, f))
      in
      (omega (arith, g, timed_at j, o.tick, f, (clock_ge M x k n).2), omega (arith, w.timed_tick j o.known.1, o.tick), omega arith)

  gap_before :
      (k bound : ℕ) → k < n → ((point T : ℕ) → PointBefore m x k point T → strictly point T ≤ bound) → clock_gap M x k n ≤ bound
  gap_before k bound b h =
      clock_le M x k n bound (support_le M x k n bound (λ c l _ _ t. absurd (omega (arith, w.condition_step c l))))
      (opposing_le M x k n bound by_effect_lem)
      (condition_le M x k n bound (λ c e l _ t. absurd (omega (arith, w.condition_step c l))) by_condition)
    where
      by_effect_lem :
          (e f : ℕ) → f < M.effects → M.effect_step e ≡ k → M.effect_step f ≡ n → Opposer M (M.effect_fact f) (M.effect_value f) e
          → effect_tick M x e < effect_tick M x f
          → strictly (M.effect_at e) (M.effect_at f) ≤ bound
      by_effect_lem e f l s t o less =
          let z = of_clock f l t in
          let j = z.0 in
          let r = of_step_lem e k o.known b s in
          let step : m.effect_step e ≡ k = sym (own_step_lem e r) ∙ s in
          let p : EffectOpposed m k (m.effect_at e) (m.timed_tick j) e j =
          record {
            known = (r, z.1);
            of_step = step;
            at = refl;
            tick = refl;
            same_fact = sym (own_fact e r) ∙ o.of_fact ∙ ap M.effect_fact z.2 ∙ timed_fact_lem j;
            other_value = λ q. o.not_value (own_value e r ∙ q ∙ sym (timed_value_lem j) ∙ ap M.effect_value (sym z.2));
          }
          in
          let a : M.effect_at f ≡ m.timed_tick j = ap M.effect_at z.2 ∙ timed_at j in
          let u : effect_tick M x f ≡ m.timed_tick j = ap (effect_tick M x) z.2 ∙ timed_tick_lem j in
          omega (
            arith,
            a,
            own_at e r,
            h (m.effect_at e) (m.timed_tick j) (effect_before e j p (omega (arith, u, own_tick e k r step))),
          )

      by_condition :
          (c e : ℕ) → c < m.conditions → m.condition_step c ≡ k → M.effect_step e ≡ n → Opposer M (m.condition_fact c) (m.condition_value c) e
          → last_tick M x c < effect_tick M x e
          → strictly (m.condition_to c) (M.effect_at e) ≤ bound
      by_condition c e l t s o less =
          let z = of_clock e o.known s in
          let j = z.0 in
          let p = opposed_condition c k e l t z o in
          let a : M.effect_at e ≡ m.timed_tick j = ap M.effect_at z.2 ∙ timed_at j in
          let u : effect_tick M x e ≡ m.timed_tick j = ap (effect_tick M x) z.2 ∙ timed_tick_lem j in
          omega (arith, a, h (m.condition_to c) (m.timed_tick j) (condition_before c j p refl (omega (arith, u, last_tick_lem c k t))))

  -- what a goal allows
  goal_allows : (k g bound : ℕ) → k < n → g < m.goals → bound ≤ no_latest
      → ((point g e : ℕ) → GoalDue m x k point g e → bound + point ≤ m.goal_deadline g)
      → bound ≤ allowed M x k g
  unfolding allowed
  goal_allows k g bound b l most h =
      let d = not (eqb (m.goal_deadline g) no_deadline) in
      let i = not (eqb (goal_link M x g) initial_state) in
      let s = eqb (M.effect_step (goal_link M x g)) k in
      ⊎_elim
      (λ (t : (d && i && s) ≡ true).
      let a = and_both (d && i) s t in
      let c = and_both d i a.0 in
      let e = goal_link M x g in
      let p = goal_supported M x form v g l in
      let known : e < M.effects =
      ⊎_elim (λ (q : e < M.effects). q) (λ (q : e ≡ initial_state). absurd (eqb-false _ _ (not-true _ c.1) q)) (link_known M x _ _ _ _ e p)
      in
      let r = of_step_lem e k known b (eqb-true _ _ a.1) in
      let due : GoalDue m x k (m.effect_at e) g e =
      record {
        known = (l, r);
        deadline = eqb-false _ _ (not-true _ c.0);
        of_step = sym (own_step_lem e r) ∙ eqb-true _ _ a.1;
        at = refl;
        linked = p;
      }
      in
      rw t (omega (arith, own_at e r, h (m.effect_at e) g e due)))
      (λ (t : (d && i && s) ≡ false). rw t most)
      (either (d && i && s))

  limited_due :
      (k point g e : ℕ) → k < n → (m.fixed k ≡ 1 → ⊥) → GoalDue m x k point g e → latest_of M x k + point ≤ m.goal_deadline g
  limited_due k point g e b f o =
      let h = o.known.1 in
      let q : goal_link M x g ≡ e = linked_once M x _ _ _ _ (goal_link M x g) e (goal_supported M x form v g o.known.0) o.linked in
      let i : goal_link M x g ≡ initial_state → ⊥ = λ z. omega (arith, q, z, h, w.effect_count) in
      let s : M.effect_step (goal_link M x g) ≡ k = ap M.effect_step q ∙ own_step_lem e h ∙ o.of_step in
      let a : M.effect_at (goal_link M x g) ≡ point = ap M.effect_at q ∙ own_at e h ∙ o.at in
      let allow : allowed M x k g ≡ m.goal_deadline g - M.effect_at (goal_link M x g) =
      ap (λ z. allowed M x z g) (sym s) ∙ allowed_linked M x g o.deadline i
      in
      omega (
        arith,
        a,
        allow,
        latest_free M x k f,
        least_le (allowed M x k) m.goals no_latest g o.known.0,
        goal_link_in_time M x form v g o.known.0 o.deadline i,
      )

  -- the theorem
  pub limits_plain : Limited m x (limit_of M x) (latest_of M x)
  limits_plain =
      record {
        fixed = λ k _ f. (limit_fixed M x k f, latest_fixed M x k f);
        after = λ k point T b f p. let g = after_gap k point T b p in omega (arith, limit_free M x k f, g.0, g.1);
        no_later = λ k bound b f h.
            omega (arith, limit_free M x k f, gap_after k (bound + gap_bias) b (λ point T p. omega (arith, h point T p)));
        before = λ k point T b f p.
            let g = before_gap k point T b p in
            let some : clock_gap M x k n ≡ 0 → ⊥ = λ z. omega (arith, z, g.0, g.1) in
            omega (arith, latest_free M x k f, clock_bound M x k some, g.0, g.1, g.2);
        due = limited_due;
        no_earlier = λ k bound b f most h due.
            let goals = least_ge (allowed M x k) m.goals no_latest bound most (λ g l. goal_allows k g bound b l most due) in
            let gap = gap_before k (gap_bias - bound) b (λ point T p. omega (arith, h point T p, (before_gap k point T b p).1)) in
            elim (ℕ_discrete (clock_gap M x k n) 0) [
              | yes z ↦ omega (arith, latest_free M x k f, goals, clock_unbound M x k z)
              | no z ↦ omega (arith, latest_free M x k f, goals, clock_bound M x k z, gap)
            ];
      }

-- what agrees with these on the steps is as plain
pub limited_same :
    (m : Model) (x limit latest other late : ℕ → ℕ) → ((k : ℕ) → k < m.steps → other k ≡ limit k)
    → ((k : ℕ) → k < m.steps → late k ≡ latest k)
    → Limited m x limit latest
    → Limited m x other late
limited_same m x limit latest other late a b p =
    record {
      fixed = λ k h f. (a k h ∙ (p.fixed k h f).0, b k h ∙ (p.fixed k h f).1);
      after = λ k point T h f o. omega (arith, a k h, p.after k point T h f o);
      no_later = λ k bound h f o. omega (arith, a k h, p.no_later k bound h f o);
      before = λ k point T h f o. omega (arith, b k h, p.before k point T h f o);
      due = λ k point g e h f o. omega (arith, b k h, p.due k point g e h f o);
      no_earlier = λ k bound h f most o due. omega (arith, b k h, p.no_earlier k bound h f most o due);
    }
