-- A valid schedule obeys the orders and limits found in it. Each rule orders two points as they lie, so the schedule has room for its
-- gap, and for the largest; a link lies before its condition and at or before its goal's deadline.
use Prim.Native.Nat.{ℕ, ◌+◌, ◌≤◌, ◌<◌, max}
use mathlib.Core.Path.{◌≡◌, refl, sym, ap, ◌∙◌}
use mathlib.Core.Bool.{Bool, true, false, ◌&&◌, not, cond}
use mathlib.Core.Logic.{◌⊎◌, inl, inr, ⊎_elim}
use native.Mathlib.Decide.{ℕ_discrete}
use native.Mathlib.Omega.{arith}
use borrow.Author.Tests.{ltb-true, eqb-true, eqb-false, not-true}
use lib.Dec.{ltb, eqb}
use Rattle.laws.specs.Fold.{largest, least}
use Rattle.laws.proofs.Search.{either, and_both}
use Rattle.laws.proofs.Fold.{largest_le, least_none}
use Rattle.job.specs.Model.{Model}
use Rattle.job.specs.Model.{no_deadline}
use Rattle.job.specs.Clocked.{ClockedForm}
use Rattle.validity.specs.Ticks.{effect_tick, first_tick, opposes}
use Rattle.validity.specs.Valid.{Valid}
use Rattle.order_file.specs.Contents.{initial_state, no_latest, gap_bias}
use Rattle.orders.specs.Links.{condition_link, goal_link}
use Rattle.orders.specs.Gaps.{strictly, support_order, support_gap, opposing_order, opposing_gap, before_order, after_order, condition_gap}
use Rattle.orders.specs.Gaps.{level_order, level_gap, need_order, use_order, need_gap, gap_of}
use Rattle.orders.specs.Windows.{clock_gap, clock_latest, limit_of, allowed, latest_of}
use Rattle.orders.specs.Supporter.{by_initial_state, by_effect, ConditionLinkedTo}
use Rattle.orders.specs.Obeys.{Obeys}
use Rattle.orders.proofs.Near.{room}
use Rattle.orders.proofs.Supporter.{least_at, condition_supported}
use Rattle.orders.proofs.Links.{goal_link_in_time}
use Rattle.orders.proofs.Limits.{limit_fixed, limit_free, latest_fixed, latest_free, clock_unbound, clock_bound}

-- a gap that its test chooses fits where the test's parts make it fit
chosen_fits : (a b c : Bool) (g r : ℕ) → (a ≡ true → b ≡ true → c ≡ true → g ≤ r) → cond (a && b && c) g 0 ≤ r
chosen_fits true true true g r h = h refl refl refl
chosen_fits true true false g r h = omega arith
chosen_fits true false c g r h = omega arith
chosen_fits false b c g r h = omega arith

-- there is room for two points as they lie: rules 2, 3 and 4
ordered :
    (x : ℕ → ℕ) (i k j n p q : ℕ) (c : Bool)
    → cond (eqb j i && eqb n k && c && ltb (x j + p) (x n + q)) (strictly p q) 0 ≤ room x i k
ordered x i k j n p q c =
    chosen_fits (eqb j i && eqb n k) c (ltb (x j + p) (x n + q)) (strictly p q) (room x i k)
    (λ t _ l.
    let b = and_both _ _ t in
    let a : x j ≡ x i = ap x (eqb-true _ _ b.0) in
    let d : x n ≡ x k = ap x (eqb-true _ _ b.1) in
    omega (arith, ltb-true (x j + p) (x n + q) l))

module _ (m : Model) (x : ℕ → ℕ) (w : ClockedForm m) (s : Valid m x) where
  link_before :
      (c : ℕ) → c < m.conditions → (condition_link m x c ≡ initial_state → ⊥) → effect_tick m x (condition_link m x c) < first_tick m x c
  link_before c h n = by (condition_supported m x w s c h)
    where
      by : ConditionLinkedTo m x c (condition_link m x c) → effect_tick m x (condition_link m x c) < first_tick m x c
      by (by_initial_state z i) = absurd (n z)
      by (by_effect o p) = p.in_time

  support_fits : (i k : ℕ) → support_gap m x i k ≤ room x i k
  unfolding support_gap support_order
  support_fits i k =
      largest_le (support_order m x i k) m.conditions (room x i k)
      (λ c h.
      let e = condition_link m x c in
      chosen_fits (not (eqb e initial_state)) (eqb (m.effect_step e) i) (eqb (m.condition_step c) k)
      (strictly (m.effect_at e) (m.condition_from c)) (room x i k)
      (λ n p q.
      let a : x (m.effect_step e) ≡ x i = ap x (eqb-true _ _ p) in
      let d : x (m.condition_step c) ≡ x k = ap x (eqb-true _ _ q) in
      omega (arith, link_before c h (eqb-false _ _ (not-true _ n)))))

  opposing_fits : (i k : ℕ) → opposing_gap m x i k ≤ room x i k
  unfolding opposing_gap opposing_order
  opposing_fits i k =
      largest_le (λ e. largest m.effects (opposing_order m x i k e)) m.effects (room x i k)
      (λ e _.
      largest_le (opposing_order m x i k e) m.effects (room x i k)
      (λ f _.
      ordered x i k (m.effect_step e) (m.effect_step f) (m.effect_at e) (m.effect_at f) (opposes m e (m.effect_fact f) (m.effect_value f))))

  condition_fits : (i k : ℕ) → condition_gap m x i k ≤ room x i k
  unfolding condition_gap before_order after_order
  condition_fits i k =
      largest_le (λ c. max (largest m.effects (before_order m x i k c)) (largest m.effects (after_order m x i k c))) m.conditions (room x i k)
      (λ c _.
      let o : ℕ → Bool = λ e. opposes m e (m.condition_fact c) (m.condition_value c) in
      let b : largest m.effects (before_order m x i k c) ≤ room x i k =
      largest_le (before_order m x i k c) m.effects (room x i k)
      (λ e _. ordered x i k (m.effect_step e) (m.condition_step c) (m.effect_at e) (m.condition_from c) (o e))
      in
      let a : largest m.effects (after_order m x i k c) ≤ room x i k =
      largest_le (after_order m x i k c) m.effects (room x i k)
      (λ e _. ordered x i k (m.condition_step c) (m.effect_step e) (m.condition_to c) (m.effect_at e) (o e))
      in
      omega arith)

  level_fits : (i k : ℕ) → level_gap m x i k ≤ room x i k
  unfolding level_gap level_order
  level_fits i k =
      largest_le (λ u. largest m.uses (level_order m x i k u)) m.uses (room x i k)
      (λ u _.
      largest_le (level_order m x i k u) m.uses (room x i k)
      (λ v _. ordered x i k (m.use_step u) (m.use_step v) (m.use_at u) (m.use_at v) (eqb (m.use_level u) (m.use_level v))))

  need_fits : (i k : ℕ) → need_gap m x i k ≤ room x i k
  unfolding need_gap need_order use_order
  need_fits i k =
      largest_le (λ n. max (largest m.uses (need_order m x i k n)) (largest m.uses (use_order m x i k n))) m.needs (room x i k)
      (λ n _.
      let o : ℕ → Bool = λ u. eqb (m.use_level u) (m.need_level n) in
      let b : largest m.uses (need_order m x i k n) ≤ room x i k =
      largest_le (need_order m x i k n) m.uses (room x i k)
      (λ u _. ordered x i k (m.need_step n) (m.use_step u) (m.need_at n) (m.use_at u) (o u))
      in
      let a : largest m.uses (use_order m x i k n) ≤ room x i k =
      largest_le (use_order m x i k n) m.uses (room x i k)
      (λ u _. ordered x i k (m.use_step u) (m.need_step n) (m.use_at u) (m.need_at n) (o u))
      in
      omega arith)

  -- an order with the clock
  pub clock_fits : (i k : ℕ) → clock_gap m x i k ≤ room x i k
  unfolding clock_gap
  clock_fits i k = omega (arith, support_fits i k, opposing_fits i k, condition_fits i k)

  gap_fits : (i k : ℕ) → gap_of m x i k ≤ room x i k
  unfolding gap_of
  gap_fits i k =
      ⊎_elim
      (λ (e : eqb i k ≡ true). rw e (omega arith))
      (λ (e : eqb i k ≡ false).
      rw e (omega (arith, support_fits i k, opposing_fits i k, condition_fits i k, level_fits i k, need_fits i k)))
      (either (eqb i k))

  -- what a goal allows of a step it has started by
  allowed_fits : (k g : ℕ) → g < m.goals → (allowed m x k g ≡ no_latest → ⊥) → x k ≤ allowed m x k g
  unfolding allowed
  allowed_fits k g h n =
      let d = not (eqb (m.goal_deadline g) no_deadline) in
      let l = not (eqb (goal_link m x g) initial_state) in
      let e = eqb (m.effect_step (goal_link m x g)) k in
      ⊎_elim
      (λ (t : (d && l && e) ≡ true).
      let b = and_both (d && l) e t in
      let c = and_both d l b.0 in
      let q : x (m.effect_step (goal_link m x g)) ≡ x k = ap x (eqb-true _ _ b.1) in
      rw t (omega (arith, goal_link_in_time m x w s g h (eqb-false _ _ (not-true _ c.0)) (eqb-false _ _ (not-true _ c.1)))))
      (λ (f : (d && l && e) ≡ false). absurd (n (rw f)))
      (either (d && l && e))

  -- the deadlines leave a step any start, or one no earlier than its own
  deadlines_fit :
      (k : ℕ) → (least m.goals no_latest (allowed m x k) ≡ no_latest) ⊎ (x k ≤ least m.goals no_latest (allowed m x k))
  deadlines_fit k =
      elim (ℕ_discrete (least m.goals no_latest (allowed m x k)) no_latest) [
        | yes z ↦ inl z
        | no n ↦
            ⊎_elim
            (λ (z : least m.goals no_latest (allowed m x k) ≡ no_latest). absurd (n z))
            (λ (g : (g : ℕ) × (g < m.goals) × (allowed m x k g ≡ least m.goals no_latest (allowed m x k))).
            inr (rw (← g.2) (allowed_fits k g.0 g.1 (λ z. n (sym g.2 ∙ z)))))
            (least_at (allowed m x k) no_latest m.goals)
      ]

  -- where the clock starts at 0
  module _ (zero : x m.steps ≡ 0) where
    -- and so do the timed facts
    timed_fit : (k : ℕ) → (clock_latest m x k ≡ no_latest) ⊎ ((x k ≤ clock_latest m x k) × (clock_latest m x k ≤ gap_bias))
    timed_fit k =
        elim (ℕ_discrete (clock_gap m x k m.steps) 0) [
          | yes z ↦ inl (clock_unbound m x k z)
          | no n ↦
              let f = clock_fits k m.steps in
              inr (omega (arith, clock_bound m x k n, f), omega (arith, clock_bound m x k n))
        ]

    -- the theorem: a valid schedule is itself a choice that obeys
    pub planned_obeys : Obeys m x x
    planned_obeys =
        record {
          from_limit = λ k h. from k h (ℕ_discrete (m.fixed k) 1);
          by_latest = λ k h n. by k h n (ℕ_discrete (m.fixed k) 1);
          keeps = λ i k h g n. omega (arith, gap_fits i k);
        }
      where
        from : (k : ℕ) → k < m.steps → Dec (m.fixed k ≡ 1) → limit_of m x k ≤ x k
        from k h (yes f) = omega (arith, limit_fixed m x k f, s.fixed_kept k h f)
        from k h (no f) = omega (arith, limit_free m x k f, clock_fits m.steps k)

        by : (k : ℕ) → k < m.steps → (latest_of m x k ≡ no_latest → ⊥) → Dec (m.fixed k ≡ 1) → x k ≤ latest_of m x k
        by k h n (yes f) = omega (arith, latest_fixed m x k f, s.fixed_kept k h f)
        by k h n (no f) =
            let q = latest_free m x k f in
            let b = least_none (allowed m x k) m.goals no_latest in
            ⊎_elim
            (λ (z : least m.goals no_latest (allowed m x k) ≡ no_latest).
            ⊎_elim
            (λ (y : clock_latest m x k ≡ no_latest). absurd (n (omega (arith, q, z, y))))
            (λ (y : (x k ≤ clock_latest m x k) × (clock_latest m x k ≤ gap_bias)). omega (arith, q, z, y.0, y.1))
            (timed_fit k))
            (λ (z : x k ≤ least m.goals no_latest (allowed m x k)).
            ⊎_elim
            (λ (y : clock_latest m x k ≡ no_latest). omega (arith, q, z, y, b))
            (λ (y : (x k ≤ clock_latest m x k) × (clock_latest m x k ≤ gap_bias)). omega (arith, q, z, y.0))
            (timed_fit k))
            (deadlines_fit k)
