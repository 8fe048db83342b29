-- What obeys is valid. Conflicting effects keep their order, a condition's opposing effects stay before its first tick or after its
-- last, its link before its first tick; so at each of its ticks the last earlier effect on the fact does not oppose it. A goal is
-- carried the same way, a deadline by its link's latest start. For levels let T be the planned tick of the last use before t: uses
-- up to t were planned up to T, and uses planned before T lie before t; so the bounds carry over by two inequalities of sums. What falls
-- against a need fell against it as planned, and what rose before it still does.
use Prim.Native.Nat.{ℕ, suc, ◌+◌, ◌-◌, ◌≤◌, ◌<◌}
use mathlib.Core.Path.{◌≡◌, sym, ap, ap₂, ◌∙◌}
use mathlib.Core.Bool.{true, false, ◌&&◌, ◌||◌, not, cond}
use mathlib.Core.Logic.{◌⊎◌, inl, inr, ⊎_elim}
use native.Mathlib.Decide.{ℕ_discrete, dec_lt}
use native.Mathlib.Omega.{arith}
use borrow.Author.Tests.{lt-ltb, le-ltb, eq-eqb, ne_eqb, ltb-true, eqb-true, eqb-false, not-true}
use lib.Dec.{ltb, eqb}
use Rattle.laws.proofs.Search.{either, and_both, or_out, by_order}
use Rattle.laws.proofs.Fold.{least_le, sum_le}
use Rattle.job.specs.Model.{Model}
use Rattle.job.specs.Model.{no_deadline}
use Rattle.job.specs.Clocked.{ClockedForm}
use Rattle.validity.specs.Ticks.{effect_tick, first_tick, last_tick, use_tick, need_tick}
use Rattle.validity.specs.Seen.{seen, after_all}
use Rattle.validity.specs.Levels.{fall, rises_before, falls_before, counts_against, falls_against, risen_to}
use Rattle.validity.specs.Valid.{Valid}
use Rattle.validity.proofs.Seen.{Giver, seen_by_effect, seen_by_initial, after_all_ge}
use Rattle.validity.proofs.Levels.{Within, rises_within, falls_within, last_use}
use Rattle.order_file.specs.Contents.{initial_state, no_latest}
use Rattle.orders.specs.Links.{condition_link, goal_link}
use Rattle.orders.specs.Windows.{allowed, latest_of}
use Rattle.orders.specs.Supporter.{by_initial_state, by_effect, ConditionLinkedTo, GoalLinkedTo}
use Rattle.orders.specs.Obeys.{Obeys}
use Rattle.orders.proofs.Orders.{Opposer, fixed_kept_lem, kept_opposing, kept_support, kept_before, kept_after, kept_uses, kept_need, kept_use}
use Rattle.orders.proofs.Supporter.{giver, giver_opposes, condition_supported, goal_supported}
use Rattle.orders.proofs.Links.{goal_link_in_time}
use Rattle.orders.proofs.Limits.{latest_free, allowed_linked}

-- a use counts against a need exactly if it is no later, and at the need's tick of another step
against_out : (a b i k : ℕ) → (ltb a b || (eqb a b && not (eqb i k))) ≡ true → (a ≤ b) × (i ≡ k → a ≡ b → ⊥)
against_out a b i k t =
    ⊎_elim
    (λ (l : ltb a b ≡ true). (omega (arith, ltb-true a b l), λ _ q. omega (arith, ltb-true a b l)))
    (λ (e : (eqb a b && not (eqb i k)) ≡ true).
    let c = and_both (eqb a b) (not (eqb i k)) e in
    (omega (arith, eqb-true a b c.0), λ q _. eqb-false _ _ (not-true _ c.1) q))
    (or_out _ _ t)

against_in : (a b i k : ℕ) → a ≤ b → (i ≡ k → a ≡ b → ⊥) → (ltb a b || (eqb a b && not (eqb i k))) ≡ true
against_in a b i k l n =
    elim (dec_lt a b) [
      | yes r ↦ ap (λ c. c || (eqb a b && not (eqb i k))) (lt-ltb _ _ r)
      | no r ↦
          let q : a ≡ b = omega arith in
          ap₂ ◌||◌ (le-ltb a b (omega arith)) (ap₂ ◌&&◌ (eq-eqb _ _ q) (ap not (ne_eqb _ _ (λ e. n e q))))
    ]

module _ (m : Model) (x y : ℕ → ℕ) (w : ClockedForm m) (s : Valid m x) (zero : x m.steps ≡ 0) (clock : y m.steps ≡ 0) (o : Obeys m x y) where
  -- effects
  effects_apart_lem :
      (e f : ℕ) → e < m.effects → f < m.effects → (m.effect_step e ≡ m.effect_step f → ⊥) → m.effect_fact e ≡ m.effect_fact f
      → effect_tick m y e ≡ effect_tick m y f
      → m.effect_value e ≡ m.effect_value f
  effects_apart_lem e f h g d a q =
      elim (ℕ_discrete (m.effect_value e) (m.effect_value f)) [
        | yes v ↦ v
        | no v ↦
            by_order (effect_tick m x e) (effect_tick m x f)
            (λ l. absurd (omega (arith, kept_opposing m x y w s zero clock o e f g (record { known = h; of_fact = a; not_value = v }) l)))
            (λ l.
            absurd
            (omega (arith, kept_opposing m x y w s zero clock o f e h (record { known = g; of_fact = sym a; not_value = λ z. v (sym z) }) l)))
            (λ l. s.effects_apart e f h g d a l)
      ]

  -- opposing effects on a fact stay in order
  kept_givers :
      (fact v e f : ℕ) → Giver m fact v e → Giver m fact (1 - v) f → effect_tick m x f < effect_tick m x e
      → effect_tick m y f < effect_tick m y e
  kept_givers fact v e f g k l =
      kept_opposing m x y w s zero clock o f e g.known
      (record {
        known = k.known;
        of_fact = k.of_fact ∙ sym g.of_fact;
        not_value = λ z. omega (arith, k.of_value, g.of_value);
      })
      l

  -- a condition's opposing effect of another step was planned before its first tick or after its last
  planned_apart :
      (c e : ℕ) → c < m.conditions → (m.effect_step e ≡ m.condition_step c → ⊥)
      → Opposer m (m.condition_fact c) (m.condition_value c) e
      → (effect_tick m x e < first_tick m x c) ⊎ (last_tick m x c < effect_tick m x e)
  planned_apart c e h d p =
      elim (dec_lt (effect_tick m x e) (first_tick m x c)) [
        | yes l ↦ inl l
        | no l ↦ inr (later (dec_lt (last_tick m x c) (effect_tick m x e)) l)
      ]
    where
      later : Dec (last_tick m x c < effect_tick m x e) → (effect_tick m x e < first_tick m x c → ⊥) → last_tick m x c < effect_tick m x e
      later (yes r) l = r
      later (no r) l = absurd (p.not_value (s.condition_kept c e h p.known d p.of_fact (omega arith) (omega arith)))

  condition_kept_lem :
      (c e : ℕ) → c < m.conditions → e < m.effects → (m.effect_step e ≡ m.condition_step c → ⊥) → m.effect_fact e ≡ m.condition_fact c
      → first_tick m y c ≤ effect_tick m y e
      → effect_tick m y e ≤ last_tick m y c
      → m.effect_value e ≡ m.condition_value c
  condition_kept_lem c e h g d a l r =
      elim (ℕ_discrete (m.effect_value e) (m.condition_value c)) [
        | yes v ↦ v
        | no v ↦
            let p : Opposer m (m.condition_fact c) (m.condition_value c) e = record { known = g; of_fact = a; not_value = v } in
            ⊎_elim
            (λ (b : effect_tick m x e < first_tick m x c). absurd (omega (arith, kept_before m x y w s zero clock o c e h p b)))
            (λ (b : last_tick m x c < effect_tick m x e). absurd (omega (arith, kept_after m x y w s zero clock o c e h p b)))
            (planned_apart c e h d p)
      ]

  -- an opposing effect before the last tick was planned before the first
  opposed_before :
      (c f : ℕ) → c < m.conditions → Giver m (m.condition_fact c) (1 - m.condition_value c) f → effect_tick m y f < last_tick m y c
      → effect_tick m x f < first_tick m x c
  opposed_before c f h g l =
      let p : Opposer m (m.condition_fact c) (m.condition_value c) f =
      record { known = g.known; of_fact = g.of_fact; not_value = λ z. omega (arith, g.of_value) }
      in
      elim (ℕ_discrete (m.effect_step f) (m.condition_step c)) [
        | yes e ↦ own p e (dec_lt (effect_tick m x f) (first_tick m x c))
        | no d ↦
            ⊎_elim
            (λ (b : effect_tick m x f < first_tick m x c). b)
            (λ (b : last_tick m x c < effect_tick m x f). absurd (omega (arith, kept_after m x y w s zero clock o c f h p b)))
            (planned_apart c f h d p)
      ]
    where
      own :
          Opposer m (m.condition_fact c) (m.condition_value c) f → m.effect_step f ≡ m.condition_step c
          → Dec (effect_tick m x f < first_tick m x c)
          → effect_tick m x f < first_tick m x c
      own p e (yes b) = b
      own p e (no b) =
          let q : x (m.effect_step f) ≡ x (m.condition_step c) = ap x e in
          let r : y (m.effect_step f) ≡ y (m.condition_step c) = ap y e in
          absurd (p.not_value (w.keeps_own f c p.known h e p.of_fact (omega arith) (omega arith)))

  -- an effect is not the initial state
  not_initial : (k : ℕ) → k < m.effects → k ≡ initial_state → ⊥
  not_initial k h z = omega (arith, w.effect_count)

  condition_seen_lem :
      (c t : ℕ) → c < m.conditions → first_tick m y c ≤ t → t ≤ last_tick m y c → seen m y (m.condition_fact c) t ≡ m.condition_value c
  condition_seen_lem c t h l r = by (condition_supported m x w s c h)
    where
      by : ConditionLinkedTo m x c (condition_link m x c) → seen m y (m.condition_fact c) t ≡ m.condition_value c
      by (by_initial_state z i) =
          seen_by_initial m y (m.condition_fact c) (m.condition_value c) t (w.condition_value c h) i.wanted
          (λ f g k. i.unopposed f g.known (giver_opposes m _ _ f g) (opposed_before c f h g (omega arith)))
      by (by_effect n p) =
          let fact = m.condition_fact c in
          let v = m.condition_value c in
          let e = condition_link m x c in
          let b = p.candidate in
          let g = giver m fact v e b.known b.wanted in
          seen_by_effect m y fact v t e (w.condition_value c h) g
          (omega (arith, kept_support m x y w s zero clock o c h (not_initial e b.known) b.known p.in_time))
          (λ f k q.
          kept_givers fact v e f g k (b.after f k.known (giver_opposes m fact v f k) (opposed_before c f h k (omega arith))))

  -- a fact keeps the value of an effect that was planned after all that opposes it
  pub carried :
      (fact v t e : ℕ) → v ≤ 1 → Giver m fact v e → ((f : ℕ) → Giver m fact (1 - v) f → effect_tick m x f < effect_tick m x e)
      → effect_tick m y e < t
      → seen m y fact t ≡ v
  carried fact v t e b g n l = seen_by_effect m y fact v t e b g l (λ f k _. kept_givers fact v e f g k (n f k))

  -- the link of a goal with a deadline stays in time: its step is fixed, or has a latest start, or is the clock
  link_in_time :
      (g : ℕ) → g < m.goals → (m.goal_deadline g ≡ no_deadline → ⊥) → goal_link m x g < m.effects
      → effect_tick m y (goal_link m x g) ≤ m.goal_deadline g
  link_in_time g h d l =
      let e = goal_link m x g in
      let k = m.effect_step e in
      let n : e ≡ initial_state → ⊥ = not_initial e l in
      let b : effect_tick m x e ≤ m.goal_deadline g = goal_link_in_time m x w s g h d n in
      elim (dec_lt k m.steps) [
        | yes i ↦
            elim (ℕ_discrete (m.fixed k) 1) [
              | yes f ↦ omega (arith, fixed_kept_lem m x y w s zero clock o k i f, s.fixed_kept k i f)
              | no f ↦
                  let q : latest_of m x k ≤ m.goal_deadline g - m.effect_at e =
                  omega (arith, latest_free m x k f, allowed_linked m x g d n, least_le (allowed m x k) m.goals no_latest g h)
                  in
                  omega (
                    arith,
                    o.by_latest k i
                        (λ z.
                        ⊎_elim
                        (λ (r : m.goal_deadline g ≤ 1100000). omega arith)
                        (λ (r : m.goal_deadline g ≡ no_deadline). d r)
                        (w.goal_deadline g h)),
                  )
            ]
        | no i ↦
            let c : k ≡ m.steps = omega (arith, w.effect_step e l) in
            omega (arith, ap x c, ap y c)
      ]

  -- goals
  goal_seen :
      (g t : ℕ) → g < m.goals → (goal_link m x g < m.effects → effect_tick m y (goal_link m x g) < t)
      → seen m y (m.goal_fact g) t ≡ m.goal_value g
  goal_seen g t h l = by (goal_supported m x w s g h)
    where
      by : GoalLinkedTo m x g (goal_link m x g) → seen m y (m.goal_fact g) t ≡ m.goal_value g
      by (by_initial_state z i) =
          seen_by_initial m y (m.goal_fact g) (m.goal_value g) t (w.goal_value g h) i.wanted
          (λ f k _. i.unopposed f k.known (giver_opposes m _ _ f k) tt)
      by (by_effect n p) =
          let fact = m.goal_fact g in
          let v = m.goal_value g in
          let b = p.candidate in
          carried fact v t (goal_link m x g) (w.goal_value g h) (giver m fact v (goal_link m x g) b.known b.wanted)
          (λ f k. b.after f k.known (giver_opposes m fact v f k) tt)
          (l b.known)

  goal_reached_lem : (g : ℕ) → g < m.goals → seen m y (m.goal_fact g) (after_all m y) ≡ m.goal_value g
  goal_reached_lem g h = goal_seen g (after_all m y) h (after_all_ge m y (goal_link m x g))

  goal_in_time_lem :
      (g t : ℕ) → g < m.goals → (m.goal_deadline g ≡ no_deadline → ⊥) → m.goal_deadline g < t → seen m y (m.goal_fact g) t ≡ m.goal_value g
  goal_in_time_lem g t h d l = goal_seen g t h (λ e. omega (arith, link_in_time g h d e))

  -- levels: the planned tick that bounds a level up to t
  planned_tick : (l t : ℕ) → (T : ℕ) × Within m y x l (suc t) (suc T) × Within m x y l T t
  planned_tick l t =
      ⊎_elim
      (λ (n : (u : ℕ) → u < m.uses → m.use_level u ≡ l → use_tick m y u < suc t → ⊥).
      (0, λ u h a b. absurd (n u h a b), λ u h a b. absurd (omega arith)))
      (λ (u : (u : ℕ) × (u < m.uses) × (m.use_level u ≡ l) × (use_tick m y u < suc t)
      × ((v : ℕ) → v < m.uses → m.use_level v ≡ l → use_tick m y v < suc t → use_tick m y v ≤ use_tick m y u)). (
        use_tick m x u.0,
        λ v h a b.
            elim (dec_lt (use_tick m x u.0) (use_tick m x v)) [
              | yes r ↦ absurd (omega (arith, u.4 v h a b, kept_uses m x y w s zero clock o u.0 v u.1 h (u.2 ∙ sym a) r))
              | no r ↦ omega arith
            ],
        λ v h a b. omega (arith, u.3, kept_uses m x y w s zero clock o v u.0 h u.1 (a ∙ sym u.2) b),
      ))
      (last_use m y l (suc t))

  level_low_lem : (l t : ℕ) → l < m.levels → m.level_least l + falls_before m y l (suc t) ≤ m.level_initial l + rises_before m y l t
  level_low_lem l t h =
      let T = planned_tick l t in
      omega (arith, s.level_low l T.0 h, falls_within m y x l (suc t) (suc T.0) T.1, rises_within m x y l T.0 t T.2)

  level_high_lem : (l t : ℕ) → l < m.levels → m.level_initial l + rises_before m y l (suc t) ≤ m.level_most l + falls_before m y l t
  level_high_lem l t h =
      let T = planned_tick l t in
      omega (arith, s.level_high l T.0 h, rises_within m y x l (suc t) (suc T.0) T.1, falls_within m x y l T.0 t T.2)

  -- needs: what counts against one was planned so
  against_planned : (n u : ℕ) → n < m.needs → u < m.uses → counts_against m y n u ≡ true → counts_against m x n u ≡ true
  against_planned n u h g t =
      let b = and_both _ _ t in
      let a : m.use_level u ≡ m.need_level n = eqb-true _ _ b.0 in
      let c = against_out (use_tick m y u) (need_tick m y n) (m.use_step u) (m.need_step n) b.1 in
      ap₂ ◌&&◌ b.0
      (against_in (use_tick m x u) (need_tick m x n) (m.use_step u) (m.need_step n)
      (elim (dec_lt (need_tick m x n) (use_tick m x u)) [
        | yes l ↦ absurd (omega (arith, c.0, kept_need m x y w s zero clock o n u h g a l))
        | no l ↦ omega arith
      ])
      (λ e q.
      let p : x (m.use_step u) ≡ x (m.need_step n) = ap x e in
      let r : y (m.use_step u) ≡ y (m.need_step n) = ap y e in
      c.1 e (omega arith)))

  falls_planned : (n : ℕ) → n < m.needs → falls_against m y n ≤ falls_against m x n
  unfolding falls_against
  falls_planned n h =
      sum_le (λ u. cond (counts_against m y n u) (fall m u) 0) (λ u. cond (counts_against m x n u) (fall m u) 0) m.uses
      (λ u g.
      ⊎_elim
      (λ (t : counts_against m y n u ≡ true). rw (t, against_planned n u h g t) (omega arith))
      (λ (t : counts_against m y n u ≡ false). rw t (omega arith))
      (either (counts_against m y n u)))

  need_met_lem : (n : ℕ) → n < m.needs → m.need_least n + falls_against m y n ≤ risen_to m y n
  need_met_lem n h =
      omega (
        arith,
        s.need_met n h,
        falls_planned n h,
        rises_within m x y (m.need_level n) (need_tick m x n) (need_tick m y n)
            (λ u g a l. kept_use m x y w s zero clock o n u h g a l),
      )

  -- the theorem: a choice that obeys what is found in a valid schedule x is valid
  pub obeying_valid : Valid m y
  obeying_valid =
      record {
        effects_apart = effects_apart_lem;
        condition_seen = condition_seen_lem;
        condition_kept = condition_kept_lem;
        level_low = level_low_lem;
        level_high = level_high_lem;
        need_met = need_met_lem;
        goal_reached = goal_reached_lem;
        goal_in_time = goal_in_time_lem;
        fixed_kept = fixed_kept_lem m x y w s zero clock o;
      }
