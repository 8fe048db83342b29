-- What a rule's test says of the ticks where something happens is what the rule says of every tick, in both directions.
use Prim.Native.Nat.{ℕ, suc, ◌+◌, ◌-◌, ◌≤◌, ◌<◌}
use mathlib.Core.Path.{◌≡◌, sym, ap, ap₂, ◌∙◌}
use mathlib.Core.Bool.{Bool, true, false, not, ◌&&◌, ◌||◌, cond}
use mathlib.Core.Logic.{◌⊎◌, ⊎_elim}
use native.Mathlib.Decide.{ℕ_discrete}
use native.Mathlib.Omega.{arith}
use borrow.Author.Tests.{ltb-true, ltb-false, leb-true, eqb-true, eqb-false, not-true, not-false, lt-ltb, le-ltb, le-leb, eq-eqb, ne_eqb}
use lib.Dec.{eqb}
use Rattle.laws.specs.Search.{any}
use Rattle.laws.proofs.Search.{either, contrary, and_both, or_both, any_none, any_false}
use Rattle.laws.proofs.Fold.{sum_zero}
use Rattle.job.specs.Model.{Model}
use Rattle.job.specs.Model.{no_deadline}
use Rattle.job.specs.Clocked.{ClockedForm}
use Rattle.validity.specs.Ticks.{effect_tick, first_tick, last_tick, use_tick, opposes}
use Rattle.validity.specs.Seen.{seen, after_all}
use Rattle.validity.specs.Levels.{rises_before, falls_before, used_by, rise, fall, above_least, below_most, unmet}
use Rattle.validity.specs.Checks.{moved, meets, conflicts, breaks, condition_fails, passes, level_fails, undoes, late, goal_fails}
use Rattle.validity.specs.declared.Rule.TheVariants.{Effects, Needs}
use Rattle.validity.specs.Refused.{Keeps, Kept, ConditionHolds, LevelHolds, GoalHolds}
use Rattle.validity.proofs.Seen.{Giver, seen_persists, seen_other}
use Rattle.validity.proofs.Levels.{rises_idle, falls_idle, rises_ascend, falls_ascend, last_use}

-- a test that cannot pass fails
fails : (b : Bool) → (b ≡ true → ⊥) → b ≡ false
fails b h = ⊎_elim (λ (t : b ≡ true). absurd (h t)) (λ f. f) (either b)

-- of two values that differ one is the other's opposite
other_value_lem : {a b : ℕ} → a ≤ 1 → b ≤ 1 → (a ≡ b → ⊥) → a ≡ 1 - b
other_value_lem h g d = omega arith

module _ (m : Model) (x : ℕ → ℕ) where
  -- an effect opposes exactly if it is on the fact with another value
  pub opposes_out : (e fact value : ℕ) → opposes m e fact value ≡ true → (m.effect_fact e ≡ fact) × (m.effect_value e ≡ value → ⊥)
  opposes_out e fact value h = let b = and_both _ _ h in (eqb-true _ _ b.0, eqb-false _ _ (not-true _ b.1))

  opposes_in : (e fact value : ℕ) → m.effect_fact e ≡ fact → (m.effect_value e ≡ value → ⊥) → opposes m e fact value ≡ true
  opposes_in e fact value f v = ap₂ ◌&&◌ (eq-eqb _ _ f) (ap not (ne_eqb _ _ v))

  -- refusal 9
  pub moved_none : (k : ℕ) → moved m x k ≡ false → m.fixed k ≡ 1 → x k ≡ m.start k
  unfolding moved
  moved_none k h f =
      eqb-true _ _ (not-false _ (sym (ap (λ b. b && not (eqb (x k) (m.start k))) (eq-eqb _ _ f)) ∙ h))

  pub none_moved : (k : ℕ) → (m.fixed k ≡ 1 → x k ≡ m.start k) → moved m x k ≡ false
  unfolding moved
  none_moved k h =
      fails _ (λ t. let b = and_both _ _ t in eqb-false _ _ (not-true _ b.1) (h (eqb-true _ _ b.0)))

  -- refusal 10
  pub conflicts_none :
      (e f : ℕ) → f < m.effects → conflicts m x e ≡ false → (m.effect_step e ≡ m.effect_step f → ⊥) → m.effect_fact e ≡ m.effect_fact f
      → effect_tick m x e ≡ effect_tick m x f
      → m.effect_value e ≡ m.effect_value f
  unfolding conflicts meets
  conflicts_none e f h n s a t =
      elim (ℕ_discrete (m.effect_value e) (m.effect_value f)) [
        | yes v ↦ v
        | no v ↦ contrary (ap₂ ◌&&◌ (ap₂ ◌&&◌ (ap not (ne_eqb _ _ s)) (opposes_in e (m.effect_fact f) (m.effect_value f) a v)) (eq-eqb _ _ t))
            (any_false (meets m x e) m.effects n f h)
      ]

  pub none_conflicts : (e : ℕ) → Keeps m x Effects e → conflicts m x e ≡ false
  unfolding conflicts meets
  none_conflicts e v =
      any_none (meets m x e) m.effects
      (λ f g.
      fails _
      (λ t.
      let b = and_both _ _ t in
      let a = and_both _ _ b.0 in
      let o = opposes_out e (m.effect_fact f) (m.effect_value f) a.1 in
      o.1 (v f g (eqb-false _ _ (not-true _ a.0)) o.0 (eqb-true _ _ b.1))))

  -- refusal 11
  pub breaks_none :
      (c e : ℕ) → e < m.effects → any m.effects (breaks m x c) ≡ false → (m.effect_step e ≡ m.condition_step c → ⊥)
      → m.effect_fact e ≡ m.condition_fact c
      → first_tick m x c ≤ effect_tick m x e
      → effect_tick m x e ≤ last_tick m x c
      → m.effect_value e ≡ m.condition_value c
  unfolding breaks
  breaks_none c e h n s a l r =
      elim (ℕ_discrete (m.effect_value e) (m.condition_value c)) [
        | yes v ↦ v
        | no v ↦ contrary (ap₂ ◌&&◌
            (ap₂ ◌&&◌ (ap₂ ◌&&◌ (ap not (ne_eqb _ _ s)) (opposes_in e (m.condition_fact c) (m.condition_value c) a v)) (le-leb _ _ l)) (le-leb _ _ r))
            (any_false (breaks m x c) m.effects n e h)
      ]

  none_breaks : (c : ℕ) → ConditionHolds m x c → any m.effects (breaks m x c) ≡ false
  unfolding breaks
  none_breaks c v =
      any_none (breaks m x c) m.effects
      (λ e g.
      fails _
      (λ t.
      let d = and_both _ _ t in
      let b = and_both _ _ d.0 in
      let a = and_both _ _ b.0 in
      let o = opposes_out e (m.condition_fact c) (m.condition_value c) a.1 in
      o.1 (v.unopposed e g (eqb-false _ _ (not-true _ a.0)) o.0 (leb-true _ _ b.1) (leb-true _ _ d.1))))

  -- refusal 12
  idle_falls : (l t : ℕ) → ((u : ℕ) → u < m.uses → m.use_level u ≡ l → use_tick m x u < t → ⊥) → falls_before m x l t ≡ 0
  unfolding falls_before
  idle_falls l t h =
      sum_zero (λ u. cond (used_by m x l t u) (fall m u) 0) m.uses
      (λ u k. ap (λ b. cond b (fall m u) 0) (fails (used_by m x l t u) (λ e. let b = and_both _ _ e in h u k (eqb-true _ _ b.0) (ltb-true _ _ b.1))))

  idle_rises : (l t : ℕ) → ((u : ℕ) → u < m.uses → m.use_level u ≡ l → use_tick m x u < t → ⊥) → rises_before m x l t ≡ 0
  unfolding rises_before
  idle_rises l t h =
      sum_zero (λ u. cond (used_by m x l t u) (rise m u) 0) m.uses
      (λ u k. ap (λ b. cond b (rise m u) 0) (fails (used_by m x l t u) (λ e. let b = and_both _ _ e in h u k (eqb-true _ _ b.0) (ltb-true _ _ b.1))))

  -- the bounds hold at the tick of every use
  passes_none :
      (l u : ℕ) → u < m.uses → level_fails m x l ≡ false → m.use_level u ≡ l
      → (above_least m x l (use_tick m x u) ≡ true) × (below_most m x l (use_tick m x u) ≡ true)
  unfolding level_fails passes
  passes_none l u h n e =
      and_both _ _ (not-false _
      (sym (ap (λ b. b && not (above_least m x l (use_tick m x u) && below_most m x l (use_tick m x u))) (eq-eqb _ _ e)) ∙ any_false (passes m x l)
      m.uses n u h))

  -- and so at every tick: up to the next use nothing changes
  pub low_everywhere :
      (l t : ℕ) → m.level_least l ≤ m.level_initial l → level_fails m x l ≡ false → m.level_least l + falls_before m x l (suc t) ≤ m.level_initial
      l + rises_before m x l t
  low_everywhere l t i n =
      ⊎_elim
      (λ (z : (u : ℕ) → u < m.uses → m.use_level u ≡ l → use_tick m x u < suc t → ⊥). omega (arith, idle_falls l (suc t) z))
      (λ (w : (u : ℕ) × (u < m.uses) × (m.use_level u ≡ l) × (use_tick m x u < suc t)
      × ((v : ℕ) → v < m.uses → m.use_level v ≡ l → use_tick m x
      v < suc t → use_tick m x v ≤ use_tick m x u)).
      let b : m.level_least l + falls_before m x l (suc (use_tick m x w.0)) ≤ m.level_initial l + rises_before m x l (use_tick m x w.0) = leb-true _
      _ (passes_none l w.0 w.1 n w.2).0 in
      let f = falls_idle m x l (suc (use_tick m x w.0)) (suc t) (omega (arith, w.3)) (λ v h a g. omega (arith, w.4 v h a g)) in
      omega (arith, b, f, rises_ascend m x l (use_tick m x w.0) t (omega (arith, w.3))))
      (last_use m x l (suc t))

  pub high_everywhere :
      (l t : ℕ) → m.level_initial l ≤ m.level_most l → level_fails m x l ≡ false → m.level_initial l + rises_before m x l (suc t) ≤ m.level_most
      l + falls_before m x l t
  high_everywhere l t i n =
      ⊎_elim
      (λ (z : (u : ℕ) → u < m.uses → m.use_level u ≡ l → use_tick m x u < suc t → ⊥). omega (arith, idle_rises l (suc t) z))
      (λ (w : (u : ℕ) × (u < m.uses) × (m.use_level u ≡ l) × (use_tick m x u < suc t)
      × ((v : ℕ) → v < m.uses → m.use_level v ≡ l → use_tick m x
      v < suc t → use_tick m x v ≤ use_tick m x u)).
      let b : m.level_initial l + rises_before m x l (suc (use_tick m x w.0)) ≤ m.level_most l + falls_before m x l (use_tick m x w.0) = leb-true _
      _ (passes_none l w.0 w.1 n w.2).1 in
      let f = rises_idle m x l (suc (use_tick m x w.0)) (suc t) (omega (arith, w.3)) (λ v h a g. omega (arith, w.4 v h a g)) in
      omega (arith, b, f, falls_ascend m x l (use_tick m x w.0) t (omega (arith, w.3))))
      (last_use m x l (suc t))

  pub none_passes : (l : ℕ) → LevelHolds m x l → level_fails m x l ≡ false
  unfolding level_fails passes
  none_passes l v =
      any_none (passes m x l) m.uses
      (λ u g.
      fails _
      (λ t.
      let b = and_both (eqb (m.use_level u) l) _ t in
      contrary
      (ap₂ ◌&&◌ (le-leb _ _ (v.low (use_tick m x u))) (le-leb _ _ (v.high (use_tick m x u))))
      (not-true _ b.1)))

  -- refusal 21
  pub unmet_none : (n : ℕ) → unmet m x n ≡ false → Keeps m x Needs n
  unfolding unmet
  unmet_none n h = ltb-false _ _ h

  pub none_unmet : (n : ℕ) → Keeps m x Needs n → unmet m x n ≡ false
  unfolding unmet
  none_unmet n v = le-ltb _ _ v

  -- the two halves of 11, and those of 13
  pub condition_holds :
      (c : ℕ) → condition_fails m x c ≡ false → (seen m x (m.condition_fact c) (first_tick m x c) ≡ m.condition_value c) × (any m.effects
      (breaks m x c) ≡ false)
  unfolding condition_fails
  condition_holds c n = let b = or_both _ _ n in (eqb-true _ _ (not-false _ b.0), b.1)

  pub goal_holds : (g : ℕ) → goal_fails m x g ≡ false → (seen m x (m.goal_fact g) (after_all m x) ≡ m.goal_value g) × (late m x g ≡ false)
  unfolding goal_fails
  goal_holds g n = let b = or_both _ _ n in (eqb-true _ _ (not-false _ b.0), b.1)

module _ (m : Model) (x : ℕ → ℕ) (w : ClockedForm m) where
  -- refusal 11: from the first tick on, what opposes is another step's and caught, or the step's own and refused by 7
  pub condition_seen_lem :
      (c t : ℕ) → c < m.conditions → condition_fails m x c ≡ false → first_tick m x c ≤ t → t ≤ last_tick m x c → seen m x (m.condition_fact c)
      t ≡ m.condition_value c
  condition_seen_lem c t h n l r =
      let b = condition_holds m x c n in
      seen_persists m x (m.condition_fact c) (m.condition_value c) (first_tick m x c) t (w.condition_value c h) l
      (λ f g k j.
      elim (ℕ_discrete (m.effect_step f) (m.condition_step c)) [
        | yes s ↦
            let q : x (m.effect_step f) ≡ x (m.condition_step c) = ap x s in
            omega (arith, g.of_value, w.condition_value c h, w.keeps_own f c g.known h s g.of_fact (omega arith) (omega arith))
        | no s ↦ omega (arith, g.of_value, w.condition_value c h, breaks_none m x c f g.known b.1 s g.of_fact k (omega arith))
      ])
      b.0

  pub none_condition_fails : (c : ℕ) → c < m.conditions → ConditionHolds m x c → condition_fails m x c ≡ false
  unfolding condition_fails
  none_condition_fails c h v =
      ap₂ ◌||◌
      (ap not (eq-eqb _ _ (v.seen_throughout (first_tick m x c) (omega arith) (omega (arith, w.condition_span c h)))))
      (none_breaks m x c v)

  -- refusal 13
  pub goal_in_time_lem :
      (g t : ℕ) → g < m.goals → late m x g ≡ false → (m.goal_deadline g ≡ no_deadline → ⊥) → m.goal_deadline g < t
      → seen m x (m.goal_fact g) t ≡ m.goal_value g
  unfolding late undoes
  goal_in_time_lem g t h n d l =
      let b = or_both _ _
      (sym (ap (λ b. b && (not (eqb (seen m x (m.goal_fact g) (suc (m.goal_deadline g))) (m.goal_value g)) || any m.effects (undoes m x g)))
      (ap not (ne_eqb _ _ d))) ∙ n) in
      seen_persists m x (m.goal_fact g) (m.goal_value g) (suc (m.goal_deadline g)) t (w.goal_value g h) l
      (λ f k i j.
      contrary
      (ap₂ ◌&&◌ (opposes_in m x f (m.goal_fact g) (m.goal_value g) k.of_fact (λ e. omega (arith, k.of_value, w.goal_value g h))) (lt-ltb _ _ i))
      (any_false (undoes m x g) m.effects b.1 f k.known))
      (eqb-true _ _ (not-false _ b.0))

  -- two effects on a fact at one tick agree
  pub agree :
      Kept m x Effects → (e f : ℕ) → e < m.effects → f < m.effects → m.effect_fact e ≡ m.effect_fact f → effect_tick m x e ≡ effect_tick m x f
      → m.effect_value e ≡ m.effect_value f
  agree v e f h g a t =
      elim (ℕ_discrete (m.effect_step e) (m.effect_step f)) [
        | yes s ↦ let q : x (m.effect_step e) ≡ x (m.effect_step f) = ap x s in w.one_way e f h g s a (omega arith)
        | no s ↦ v e h f g s a t
      ]

  -- what opposes a goal is seen at the next tick
  pub undone :
      Kept m x Effects → (g e : ℕ) → g < m.goals → e < m.effects → opposes m e (m.goal_fact g) (m.goal_value g) ≡ true
      → seen m x (m.goal_fact g) (suc (effect_tick m x e)) ≡ m.goal_value g
      → ⊥
  undone v g e h k t z =
      let o = opposes_out m x e (m.goal_fact g) (m.goal_value g) t in
      let r = w.goal_value g h in
      let giver : Giver m (m.goal_fact g) (1 - m.goal_value g) e = record { known = k; of_fact = o.0; of_value = other_value_lem (w.effect_value e k) r o.1 } in
      let y = seen_other m x (m.goal_fact g) (m.goal_value g) (suc (effect_tick m x e)) e r giver (omega arith)
      (λ f q j.
      elim (ℕ_discrete (effect_tick m x f) (effect_tick m x e)) [
        | yes p ↦ absurd (o.1 (sym (agree v f e q.known k (q.of_fact ∙ sym o.0) p) ∙ q.of_value))
        | no p ↦ omega arith
      ])
      in
      omega (arith, z, y, r)

  none_undoes :
      Kept m x Effects → (g : ℕ) → g < m.goals → GoalHolds m x g → (m.goal_deadline g ≡ no_deadline → ⊥)
      → any m.effects (undoes m x g) ≡ false
  unfolding undoes
  none_undoes v g h q d =
      any_none (undoes m x g) m.effects
      (λ e k.
      fails _
      (λ t.
      let b = and_both _ _ t in
      let a : m.goal_deadline g < effect_tick m x e = ltb-true _ _ b.1 in
      undone v g e h k b.0 (q.in_time (suc (effect_tick m x e)) d (omega arith))))

  pub none_goal_fails : Kept m x Effects → (g : ℕ) → g < m.goals → GoalHolds m x g → goal_fails m x g ≡ false
  unfolding goal_fails late
  none_goal_fails v g h q =
      ap₂ ◌||◌ (ap not (eq-eqb _ _ q.reached))
      (elim (ℕ_discrete (m.goal_deadline g) no_deadline) [
        | yes d ↦ ap (λ b. not
            b && (not (eqb (seen m x (m.goal_fact g) (suc (m.goal_deadline g))) (m.goal_value g)) || any m.effects (undoes m x g))) (eq-eqb _ _ d)
        | no d ↦
            ap₂ ◌&&◌ (ap not (ne_eqb _ _ d))
            (ap₂ ◌||◌ (ap not (eq-eqb _ _ (q.in_time (suc (m.goal_deadline g)) d (omega arith)))) (none_undoes v g h q d))
      ])
