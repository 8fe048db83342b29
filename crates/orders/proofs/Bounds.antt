-- Rules 1 to 3 of one pair of steps: what bounds each order bounds the largest gap, and each order is at most that.
use Prim.Native.Nat.{ℕ, ◌≤◌, ◌<◌, max}
use mathlib.Core.Path.{◌≡◌, refl, ap, ap₂}
use mathlib.Core.Bool.{Bool, true, false, ◌&&◌, not, cond}
use native.Mathlib.Omega.{arith}
use borrow.Author.Tests.{lt-ltb, eq-eqb, ne_eqb, ltb-true, eqb-true, eqb-false, not-true}
use lib.Dec.{ltb, eqb}
use Rattle.laws.specs.Fold.{largest}
use Rattle.laws.proofs.Search.{and_both}
use Rattle.laws.proofs.Fold.{largest_le, largest_ge}
use Rattle.job.specs.Model.{Model}
use Rattle.validity.specs.Ticks.{effect_tick, first_tick, last_tick, opposes}
use Rattle.order_file.specs.Contents.{initial_state}
use Rattle.orders.specs.Links.{condition_link}
use Rattle.orders.specs.Gaps.{strictly, support_order, support_gap, opposing_order, opposing_gap, before_order, after_order, condition_gap}
use Rattle.orders.specs.Windows.{clock_gap}
use Rattle.orders.proofs.Orders.{Opposer, pairs_ge, condition_ge}

chosen_le : (b : Bool) (g bound : ℕ) → (b ≡ true → g ≤ bound) → cond b g 0 ≤ bound
chosen_le true g bound h = h refl
chosen_le false g bound h = omega arith

chosen_ge : (b : Bool) (g : ℕ) → b ≡ true → g ≤ cond b g 0
chosen_ge b g e = rw e (omega arith)

-- the tests of rules 2 and 3
pair_le :
    (i k p q t u g bound : ℕ) (c : Bool) → (p ≡ i → q ≡ k → c ≡ true → t < u → g ≤ bound)
    → cond (eqb p i && eqb q k && c && ltb t u) g 0 ≤ bound
pair_le i k p q t u g bound c h =
    chosen_le (eqb p i && eqb q k && c && ltb t u) g bound
    (λ e.
    let b = and_both _ _ e in
    let d = and_both _ _ b.0 in
    let f = and_both _ _ d.0 in
    h (eqb-true _ _ f.0) (eqb-true _ _ f.1) d.1 (ltb-true _ _ b.1))

pair_ge :
    (i k p q t u g : ℕ) (c : Bool) → p ≡ i → q ≡ k → c ≡ true → t < u → g ≤ cond (eqb p i && eqb q k && c && ltb t u) g 0
pair_ge i k p q t u g c a b e l =
    chosen_ge (eqb p i && eqb q k && c && ltb t u) g
    (ap₂ ◌&&◌ (ap₂ ◌&&◌ (ap₂ ◌&&◌ (eq-eqb p i a) (eq-eqb q k b)) e) (lt-ltb t u l))

module _ (m : Model) (x : ℕ → ℕ) where
  opposer_of : (fact value e : ℕ) → e < m.effects → opposes m e fact value ≡ true → Opposer m fact value e
  opposer_of fact value e l t =
      let b = and_both _ _ t in
      record { known = l; of_fact = eqb-true _ _ b.0; not_value = eqb-false _ _ (not-true _ b.1) }

  opposer_is : (fact value e : ℕ) → Opposer m fact value e → opposes m e fact value ≡ true
  opposer_is fact value e o = ap₂ ◌&&◌ (eq-eqb _ _ o.of_fact) (ap not (ne_eqb _ _ o.not_value))

  -- rule 1
  pub support_le :
      (i k bound : ℕ)
      → ((c : ℕ) → c < m.conditions → (condition_link m x c ≡ initial_state → ⊥) → m.effect_step (condition_link m x c) ≡ i
      → m.condition_step c ≡ k
      → strictly (m.effect_at (condition_link m x c)) (m.condition_from c) ≤ bound)
      → support_gap m x i k ≤ bound
  unfolding support_gap support_order
  support_le i k bound h =
      largest_le (support_order m x i k) m.conditions bound
      (λ c l.
      let e = condition_link m x c in
      chosen_le (not (eqb e initial_state) && eqb (m.effect_step e) i && eqb (m.condition_step c) k)
      (strictly (m.effect_at e) (m.condition_from c)) bound
      (λ t.
      let b = and_both _ _ t in
      let d = and_both _ _ b.0 in
      h c l (eqb-false _ _ (not-true _ d.0)) (eqb-true _ _ d.1) (eqb-true _ _ b.1)))

  pub support_ge :
      (i k c : ℕ) → c < m.conditions → (condition_link m x c ≡ initial_state → ⊥) → m.effect_step (condition_link m x c) ≡ i
      → m.condition_step c ≡ k
      → strictly (m.effect_at (condition_link m x c)) (m.condition_from c) ≤ support_gap m x i k
  unfolding support_gap support_order
  support_ge i k c l n p q =
      omega (
        arith,
        largest_ge (support_order m x i k) m.conditions c l,
        chosen_ge _ (strictly (m.effect_at (condition_link m x c)) (m.condition_from c))
            (ap₂ ◌&&◌ (ap₂ ◌&&◌ (ap not (ne_eqb _ _ n)) (eq-eqb _ _ p)) (eq-eqb _ _ q)),
      )

  -- rule 2
  pub opposing_le :
      (i k bound : ℕ)
      → ((e f : ℕ) → f < m.effects → m.effect_step e ≡ i → m.effect_step f ≡ k → Opposer m (m.effect_fact f) (m.effect_value f) e
      → effect_tick m x e < effect_tick m x f
      → strictly (m.effect_at e) (m.effect_at f) ≤ bound)
      → opposing_gap m x i k ≤ bound
  unfolding opposing_gap opposing_order
  opposing_le i k bound h =
      largest_le (λ e. largest m.effects (opposing_order m x i k e)) m.effects bound
      (λ e l.
      largest_le (opposing_order m x i k e) m.effects bound
      (λ f r.
      pair_le i k (m.effect_step e) (m.effect_step f) (effect_tick m x e) (effect_tick m x f) (strictly (m.effect_at e) (m.effect_at f)) bound
      (opposes m e (m.effect_fact f) (m.effect_value f))
      (λ a b o t. h e f r a b (opposer_of _ _ e l o) t)))

  pub opposing_ge :
      (i k e f : ℕ) → f < m.effects → m.effect_step e ≡ i → m.effect_step f ≡ k → Opposer m (m.effect_fact f) (m.effect_value f) e
      → effect_tick m x e < effect_tick m x f
      → strictly (m.effect_at e) (m.effect_at f) ≤ opposing_gap m x i k
  unfolding opposing_gap opposing_order
  opposing_ge i k e f r a b o t =
      omega (
        arith,
        pairs_ge (opposing_order m x i k) m.effects m.effects e f o.known r,
        pair_ge i k (m.effect_step e) (m.effect_step f) (effect_tick m x e) (effect_tick m x f) (strictly (m.effect_at e) (m.effect_at f))
            (opposes m e (m.effect_fact f) (m.effect_value f)) a b (opposer_is _ _ e o) t,
      )

  -- rule 3
  pub condition_le :
      (i k bound : ℕ)
      → ((c e : ℕ) → c < m.conditions → m.effect_step e ≡ i → m.condition_step c ≡ k → Opposer m (m.condition_fact c) (m.condition_value c) e
      → effect_tick m x e < first_tick m x c
      → strictly (m.effect_at e) (m.condition_from c) ≤ bound)
      → ((c e : ℕ) → c < m.conditions → m.condition_step c ≡ i → m.effect_step e ≡ k → Opposer m (m.condition_fact c) (m.condition_value c) e
      → last_tick m x c < effect_tick m x e
      → strictly (m.condition_to c) (m.effect_at e) ≤ bound)
      → condition_gap m x i k ≤ bound
  unfolding condition_gap before_order after_order
  condition_le i k bound h g =
      largest_le (λ c. max (largest m.effects (before_order m x i k c)) (largest m.effects (after_order m x i k c))) m.conditions bound
      (λ c l.
      let o : ℕ → Bool = λ e. opposes m e (m.condition_fact c) (m.condition_value c) in
      let b : largest m.effects (before_order m x i k c) ≤ bound =
      largest_le (before_order m x i k c) m.effects bound
      (λ e r.
      pair_le i k (m.effect_step e) (m.condition_step c) (effect_tick m x e) (first_tick m x c) (strictly (m.effect_at e) (m.condition_from c)) bound
      (o e)
      (λ p q s t. h c e l p q (opposer_of _ _ e r s) t))
      in
      let a : largest m.effects (after_order m x i k c) ≤ bound =
      largest_le (after_order m x i k c) m.effects bound
      (λ e r.
      pair_le i k (m.condition_step c) (m.effect_step e) (last_tick m x c) (effect_tick m x e) (strictly (m.condition_to c) (m.effect_at e)) bound
      (o e)
      (λ p q s t. g c e l p q (opposer_of _ _ e r s) t))
      in
      omega arith)

  pub before_ge :
      (i k c e : ℕ) → c < m.conditions → m.effect_step e ≡ i → m.condition_step c ≡ k → Opposer m (m.condition_fact c) (m.condition_value c) e
      → effect_tick m x e < first_tick m x c
      → strictly (m.effect_at e) (m.condition_from c) ≤ condition_gap m x i k
  unfolding before_order
  before_ge i k c e l p q o t =
      omega (
        arith,
        (condition_ge m x i k c e l o.known).0,
        pair_ge i k (m.effect_step e) (m.condition_step c) (effect_tick m x e) (first_tick m x c) (strictly (m.effect_at e) (m.condition_from c))
            (opposes m e (m.condition_fact c) (m.condition_value c)) p q (opposer_is _ _ e o) t,
      )

  pub after_ge :
      (i k c e : ℕ) → c < m.conditions → m.condition_step c ≡ i → m.effect_step e ≡ k → Opposer m (m.condition_fact c) (m.condition_value c) e
      → last_tick m x c < effect_tick m x e
      → strictly (m.condition_to c) (m.effect_at e) ≤ condition_gap m x i k
  unfolding after_order
  after_ge i k c e l p q o t =
      omega (
        arith,
        (condition_ge m x i k c e l o.known).1,
        pair_ge i k (m.condition_step c) (m.effect_step e) (last_tick m x c) (effect_tick m x e) (strictly (m.condition_to c) (m.effect_at e))
            (opposes m e (m.condition_fact c) (m.condition_value c)) p q (opposer_is _ _ e o) t,
      )

  -- all three
  pub clock_ge :
      (i k : ℕ)
      → (support_gap m x i k ≤ clock_gap m x i k) × (opposing_gap m x i k ≤ clock_gap m x i k) × (condition_gap m x i k ≤ clock_gap m x i k)
  unfolding clock_gap
  clock_ge i k = omega arith

  pub clock_le :
      (i k bound : ℕ) → support_gap m x i k ≤ bound → opposing_gap m x i k ≤ bound → condition_gap m x i k ≤ bound → clock_gap m x i k ≤ bound
  unfolding clock_gap
  clock_le i k bound a b c = omega arith
