-- The latest starts, goal by goal: one more goal lowers only the step whose effect supports it.
use Prim.Native.Nat.{ℕ, ◌+◌, ◌-◌, ◌≤◌, ◌<◌, min}
use mathlib.Core.Path.{◌≡◌, sym, ap, ap₂, ◌∙◌}
use mathlib.Core.Bool.{Bool, true, false, ◌&&◌, not, cond}
use mathlib.Core.List.{List}
use mathlib.Core.Logic.{⊎_elim}
use native.Mathlib.Numerals.{add-one}
use native.Mathlib.Decide.{ℕ_discrete, dec_lt}
use native.Mathlib.Omega.{arith}
use borrow.Author.Tests.{eq-eqb, ne_eqb, eqb-true, eqb-false, lt-ltb, ltb-true, not-true}
use lib.ListN.{length, set}
use lib.Seq.{get_or-set_same, get_or-set_other}
use lib.Dec.{ltb, eqb}
use Rattle.laws.specs.Fold.{least}
use Rattle.laws.proofs.Fold.{least_none}
use Rattle.laws.proofs.Search.{either, contrary, and_both}
use Rattle.job.specs.Model.{Model, no_deadline, last_deadline}
use Rattle.job.specs.Clocked.{clocked}
use Rattle.job.proofs.Clocked.{of_effect, of_timed}
use Rattle.job.specs.WellFormed.{WellFormed}
use Rattle.order_file.specs.Contents.{initial_state, no_latest}
use Rattle.orders.specs.Links.{goal_link}
use Rattle.orders.specs.Windows.{allowed, clock_gap, clock_latest, latest_of}
use Rattle.orders.proofs.Limits.{allowed_linked, clock_unbound, clock_bound}
use Rattle.limits.specs.Timed.{most_limit, ClockLimits, ClockLatest}
use Rattle.order_file.specs.Table.{start_in}
use Rattle.windows.specs.Starts.{Bounded}
use Rattle.windows.specs.Loops.{fixed_start, FixedStarts, free_latest, LatestBy}

-- a deadline, or the number for none, is within a u32
pub deadline_low : {m : Model} → WellFormed m → (g : ℕ) → g < m.goals → {d : ℕ} → d ≡ m.goal_deadline g → d ≤ no_deadline
deadline_low {m} w g b {d} e =
    ⊎_elim
    (λ (h : m.goal_deadline g ≤ last_deadline). omega (arith, e, h))
    (λ (h : m.goal_deadline g ≡ no_deadline). omega (arith, e, h))
    (w.goal_deadline g b)

-- no limit is above that of the latest timed fact
pub limits_bounded :
    (m : Model) (x : ℕ → ℕ) (clock limits : List ℕ) → WellFormed m → ClockLimits m x clock → FixedStarts m clock limits
    → Bounded m.steps most_limit limits
limits_bounded m x clock limits w c f =
    record {
      size = f.size;
      most = λ k h.
          elim (ℕ_discrete (m.fixed k) 1) [
            | yes e ↦ omega (arith, rw (eq-eqb _ _ e) at (f.each k h), w.start_range k h)
            | no e ↦ omega (arith, rw (ne_eqb _ _ e) at (f.each k h), c.most k h)
          ];
    }

module _ (m : Model) (x : ℕ → ℕ) where
  abbrev M : Model
  M = clocked m

  -- a goal that has no deadline, or is supported by no effect of step k, allows k any start
  allowed_none :
      (k g : ℕ)
      → ((m.goal_deadline g ≡ no_deadline → ⊥) → (goal_link M x g ≡ initial_state → ⊥) → M.effect_step (goal_link M x g) ≡ k → ⊥)
      → allowed M x k g ≡ no_latest
  unfolding allowed
  allowed_none k g d =
      let t : Bool =
      not (eqb (m.goal_deadline g) no_deadline) && not (eqb (goal_link M x g) initial_state) && eqb (M.effect_step (goal_link M x g)) k
      in
      ⊎_elim
      (λ (e : t ≡ true).
      let b = and_both _ _ e in
      let a = and_both _ _ b.0 in
      absurd (d (eqb-false _ _ (not-true _ a.0)) (eqb-false _ _ (not-true _ a.1)) (eqb-true _ _ b.1)))
      (λ (e : t ≡ false). ap (λ b. cond b (m.goal_deadline g - M.effect_at (goal_link M x g)) no_latest) e)
      (either t)

  least_next : (k g : ℕ) → least (g + 1) no_latest (allowed M x k) ≡ min (least g no_latest (allowed M x k)) (allowed M x k g)
  unfolding least
  least_next k g = rw add-one

  clock_most : (k : ℕ) → clock_latest M x k ≤ no_latest
  clock_most k =
      elim (ℕ_discrete (clock_gap M x k m.steps) 0) [
        | yes z ↦ omega (arith, clock_unbound M x k z)
        | no n ↦ omega (arith, clock_bound M x k n)
      ]

  -- the latest starts before any goal
  pub latest_none : (clock starts : List ℕ) → ClockLatest m x clock → FixedStarts m clock starts → LatestBy m x 0 starts
  unfolding least
  latest_none clock starts c h =
      record {
        each = λ k l.
            let e : start_in clock k ≡ free_latest m x 0 k = omega (arith, c.each k l, clock_most k) in
            h.each k l ∙ ap (λ v. fixed_start m v k) e;
      }

  -- those by all goals
  pub latest_all :
      (g : ℕ) (starts : List ℕ) → LatestBy m x g starts → g ≤ m.goals → m.goals ≤ g → (k : ℕ) → k < m.steps
      → start_in starts k ≡ latest_of M x k
  unfolding latest_of
  latest_all g starts w h l = let q : g ≡ m.goals = omega arith in (rw q at w).each

  -- One more goal: what the code read of its deadline, its link, that effect's step and that step's fixed mark.
  module _ (form : WellFormed m) (g : ℕ) (before : List ℕ) (w : LatestBy m x g before) {deadline link step fixed : ℕ}
      (ed : deadline ≡ m.goal_deadline g) (el : link ≡ goal_link M x g) (es : step ≡ m.effect_step link) (ef : fixed ≡ m.fixed step) where
    -- a link that is no effect's is not that of a step, and one that is has that effect's step
    linked_effect_lem : (k : ℕ) → k < m.steps → M.effect_step (goal_link M x g) ≡ k → link < m.effects
    linked_effect_lem k h e =
        elim (dec_lt link m.effects) [
          | yes l ↦ l
          | no l ↦
              absurd (omega (arith, h, ap M.effect_step el ∙ e, of_timed m m.effect_step (λ _. m.steps) link (omega arith)))
        ]

    linked_step : link < m.effects → step ≡ M.effect_step (goal_link M x g)
    linked_step l = es ∙ sym (of_effect m m.effect_step (λ _. m.steps) link l) ∙ ap M.effect_step el

    -- a step that the goal does not lower keeps its latest start
    kept :
        (k : ℕ) → k < m.steps → ((m.fixed k ≡ 1 → ⊥) → allowed M x k g ≡ no_latest)
        → start_in before k ≡ fixed_start m (free_latest m x (g + 1) k) k
    kept k h a =
        elim (ℕ_discrete (m.fixed k) 1) [
          | yes f ↦ rw (eq-eqb _ _ f) (rw (eq-eqb _ _ f) at (w.each k h))
          | no f ↦
              rw (ne_eqb _ _ f)
              (omega (arith, rw (ne_eqb _ _ f) at (w.each k h), least_next k g, a f, least_none (allowed M x k) g no_latest))
        ]

    pub latest_same :
        (not (eqb deadline no_deadline) && ltb link m.effects && ltb step m.steps && not (eqb fixed 1)) ≡ false
        → LatestBy m x (g + 1) before
    latest_same t =
        record {
          each = λ k h.
              kept k h (λ f.
              allowed_none k g (λ d n e.
              let l = linked_effect_lem k h e in
              let q : step ≡ k = linked_step l ∙ e in
              contrary
              (ap₂ ◌&&◌
              (ap₂ ◌&&◌ (ap₂ ◌&&◌ (ap not (ne_eqb _ _ (λ z. d (sym ed ∙ z)))) (lt-ltb link m.effects l))
              (lt-ltb step m.steps (omega arith)))
              (ap not (ne_eqb _ _ (λ z. f (ap m.fixed (sym q) ∙ sym ef ∙ z)))))
              t));
        }

    pub latest_set :
        (v : ℕ) → (not (eqb deadline no_deadline) && ltb link m.effects && ltb step m.steps && not (eqb fixed 1)) ≡ true
        → step < length before → v ≡ min (start_in before step) (deadline - m.effect_at link)
        → LatestBy m x (g + 1) (set before step v)
    latest_set v t l e =
        let b = and_both _ _ t in
        let c = and_both _ _ b.0 in
        let a = and_both _ _ c.0 in
        let i = ltb-true link m.effects a.1 in
        let there = linked_step i in
        let f = eqb-false fixed 1 (not-true _ b.1) in
        let free : m.fixed step ≡ 1 → ⊥ = λ z. f (ef ∙ z) in
        let at : M.effect_at (goal_link M x g) ≡ m.effect_at link =
        ap M.effect_at (sym el) ∙ of_effect m m.effect_at m.timed_tick link i
        in
        let linked =
        allowed_linked M x g (λ z. eqb-false deadline no_deadline (not-true _ a.0) (ed ∙ z))
        (λ z. absurd (omega (arith, el ∙ z, i, form.effect_count)))
        in
        let most : allowed M x step g ≡ deadline - m.effect_at link =
        ap (λ k. allowed M x k g) there ∙ linked ∙ ap₂ ◌-◌ (sym ed) at
        in
        record {
          each = λ k h.
              elim (ℕ_discrete k step) [
                | yes q ↦
                    rw (q, ne_eqb _ _ free)
                    (omega (
                      arith,
                      get_or-set_same before step v 0 l,
                      rw (ne_eqb _ _ free) at (w.each step (ltb-true _ _ c.1)),
                      least_next step g,
                      most,
                      e,
                    ))
                | no q ↦
                    get_or-set_other before step k v 0 q
                    ∙ kept k h (λ _. allowed_none k g (λ _ _ z. q (sym z ∙ sym there)))
              ];
        }
