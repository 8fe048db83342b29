-- Every order is kept. Each rule's gap is at most the largest of its pair, and a schedule that obeys has room for the largest; so what
-- a rule orders stays ordered. Points of one step keep their order whatever its start.
use Prim.Native.Nat.{ℕ, ◌+◌, ◌-◌, ◌≤◌, ◌<◌, max}
use mathlib.Core.Path.{◌≡◌, refl, ap, ap₂}
use mathlib.Core.Bool.{Bool, true, ◌&&◌, not, cond}
use native.Mathlib.Decide.{ℕ_discrete, dec_lt}
use native.Mathlib.Omega.{arith}
use borrow.Author.Tests.{lt-ltb, eq-eqb, ne_eqb}
use lib.Dec.{ltb, eqb}
use Rattle.laws.specs.Fold.{largest}
use Rattle.laws.proofs.Fold.{largest_ge}
use Rattle.job.specs.Model.{Model, longest, last_timed}
use Rattle.job.specs.Clocked.{ClockedForm}
use Rattle.validity.specs.Ticks.{effect_tick, first_tick, last_tick, use_tick, need_tick, opposes}
use Rattle.order_file.specs.Contents.{initial_state, gap_bias}
use Rattle.orders.specs.Links.{condition_link}
use Rattle.orders.specs.Gaps.{strictly, support_order, support_gap, opposing_order, opposing_gap, before_order, after_order, condition_gap}
use Rattle.orders.specs.Gaps.{level_order, level_gap, need_order, use_order, need_gap, gap_of}
use Rattle.validity.specs.Valid.{Valid}
use Rattle.orders.specs.Windows.{clock_gap, latest_of}
use Rattle.orders.specs.Obeys.{Obeys}
use Rattle.orders.proofs.Near.{room, from_near, use_near, need_near}
use Rattle.orders.proofs.Limits.{limit_fixed, limit_free, latest_fixed, latest_free, clock_bound}
use Rattle.orders.proofs.Planned.{clock_fits}

-- effect e is on the fact with another value
pub record Opposer (m : Model) (fact value e : ℕ) : Type 0 where
  pub known : e < m.effects
  pub of_fact : m.effect_fact e ≡ fact
  pub not_value : m.effect_value e ≡ value → ⊥

opposer_opposes : (m : Model) (fact value e : ℕ) → Opposer m fact value e → opposes m e fact value ≡ true
opposer_opposes m fact value e o = ap₂ ◌&&◌ (eq-eqb _ _ o.of_fact) (ap not (ne_eqb _ _ o.not_value))

-- what a passed test chooses is its gap
chosen : (b : Bool) (g : ℕ) → b ≡ true → g ≤ cond b g 0
chosen b g e = rw e (omega arith)

-- rules 2, 3 and 4 for the two steps' own pair
pair_under :
    (i k p q g : ℕ) (c : Bool) {bound : ℕ} → c ≡ true → p < q → cond (eqb i i && eqb k k && c && ltb p q) g 0 ≤ bound → g ≤ bound
pair_under i k p q g c t l h =
    omega (arith, chosen _ g (ap₂ ◌&&◌ (ap₂ ◌&&◌ (ap₂ ◌&&◌ (eq-eqb i i refl) (eq-eqb k k refl)) t) (lt-ltb p q l)))

pub pairs_ge : (f : ℕ → ℕ → ℕ) (n m a b : ℕ) → a < n → b < m → f a b ≤ largest n (λ j. largest m (f j))
pairs_ge f n m a b h l = omega (arith, largest_ge (f a) m b l, largest_ge (λ j. largest m (f j)) n a h)

module _ (m : Model) (x : ℕ → ℕ) where
  -- each rule's gap is at most the largest of the pair
  gap_rules :
      (i k : ℕ) → (i ≡ k → ⊥)
      → (support_gap m x i k ≤ gap_of m x i k) × (opposing_gap m x i k ≤ gap_of m x i k) × (condition_gap m x i k ≤ gap_of m x i k)
      × (level_gap m x i k ≤ gap_of m x i k)
      × (need_gap m x i k ≤ gap_of m x i k)
  unfolding gap_of
  gap_rules i k d = rw (ne_eqb i k d) (omega arith)

  clock_rules :
      (i k : ℕ)
      → (support_gap m x i k ≤ clock_gap m x i k) × (opposing_gap m x i k ≤ clock_gap m x i k) × (condition_gap m x i k ≤ clock_gap m x i k)
  unfolding clock_gap
  clock_rules i k = omega arith

  clock_among : (i k : ℕ) → (i ≡ k → ⊥) → clock_gap m x i k ≤ gap_of m x i k
  unfolding clock_gap
  clock_among i k d = omega (arith, (gap_rules i k d).0, (gap_rules i k d).1, (gap_rules i k d).2)

  -- and at least the gap of each of its orders
  support_gap_lem :
      (c : ℕ) → c < m.conditions → (condition_link m x c ≡ initial_state → ⊥)
      → strictly (m.effect_at (condition_link m x c)) (m.condition_from c)
      ≤ support_gap m x (m.effect_step (condition_link m x c)) (m.condition_step c)
  unfolding support_gap support_order
  support_gap_lem c h d =
      let e = condition_link m x c in
      let i = m.effect_step e in
      let k = m.condition_step c in
      omega (
        arith,
        chosen _ (strictly (m.effect_at e) (m.condition_from c))
            (ap₂ ◌&&◌ (ap₂ ◌&&◌ (ap not (ne_eqb e initial_state d)) (eq-eqb i i refl)) (eq-eqb k k refl)),
        largest_ge (support_order m x i k) m.conditions c h,
      )

  opposing_gap_lem :
      (e f : ℕ) → f < m.effects → Opposer m (m.effect_fact f) (m.effect_value f) e → effect_tick m x e < effect_tick m x f
      → strictly (m.effect_at e) (m.effect_at f) ≤ opposing_gap m x (m.effect_step e) (m.effect_step f)
  unfolding opposing_gap opposing_order
  opposing_gap_lem e f h o l =
      pair_under (m.effect_step e) (m.effect_step f) _ _ _ _ (opposer_opposes m _ _ e o) l
      (pairs_ge (opposing_order m x (m.effect_step e) (m.effect_step f)) m.effects m.effects e f o.known h)

  pub condition_ge :
      (i k c e : ℕ) → c < m.conditions → e < m.effects
      → (before_order m x i k c e ≤ condition_gap m x i k) × (after_order m x i k c e ≤ condition_gap m x i k)
  unfolding condition_gap
  condition_ge i k c e h l =
      let most =
      largest_ge (λ j. max (largest m.effects (before_order m x i k j)) (largest m.effects (after_order m x i k j))) m.conditions c h
      in (
        omega (arith, largest_ge (before_order m x i k c) m.effects e l, most),
        omega (arith, largest_ge (after_order m x i k c) m.effects e l, most),
      )

  before_gap :
      (c e : ℕ) → c < m.conditions → Opposer m (m.condition_fact c) (m.condition_value c) e → effect_tick m x e < first_tick m x c
      → strictly (m.effect_at e) (m.condition_from c) ≤ condition_gap m x (m.effect_step e) (m.condition_step c)
  unfolding before_order
  before_gap c e h o l =
      pair_under (m.effect_step e) (m.condition_step c) _ _ _ _ (opposer_opposes m _ _ e o) l (condition_ge _ _ c e h o.known).0

  after_gap :
      (c e : ℕ) → c < m.conditions → Opposer m (m.condition_fact c) (m.condition_value c) e → last_tick m x c < effect_tick m x e
      → strictly (m.condition_to c) (m.effect_at e) ≤ condition_gap m x (m.condition_step c) (m.effect_step e)
  unfolding after_order
  after_gap c e h o l =
      pair_under (m.condition_step c) (m.effect_step e) _ _ _ _ (opposer_opposes m _ _ e o) l (condition_ge _ _ c e h o.known).1

  level_gap_lem :
      (u v : ℕ) → u < m.uses → v < m.uses → m.use_level u ≡ m.use_level v → use_tick m x u < use_tick m x v
      → strictly (m.use_at u) (m.use_at v) ≤ level_gap m x (m.use_step u) (m.use_step v)
  unfolding level_gap level_order
  level_gap_lem u v h g a l =
      pair_under (m.use_step u) (m.use_step v) _ _ _ _ (eq-eqb _ _ a) l
      (pairs_ge (level_order m x (m.use_step u) (m.use_step v)) m.uses m.uses u v h g)

  pub need_ge :
      (i k n u : ℕ) → n < m.needs → u < m.uses
      → (need_order m x i k n u ≤ need_gap m x i k) × (use_order m x i k n u ≤ need_gap m x i k)
  unfolding need_gap
  need_ge i k n u h l =
      let most =
      largest_ge (λ j. max (largest m.uses (need_order m x i k j)) (largest m.uses (use_order m x i k j))) m.needs n h
      in (
        omega (arith, largest_ge (need_order m x i k n) m.uses u l, most),
        omega (arith, largest_ge (use_order m x i k n) m.uses u l, most),
      )

  need_gap_lem :
      (n u : ℕ) → n < m.needs → u < m.uses → m.use_level u ≡ m.need_level n → need_tick m x n < use_tick m x u
      → strictly (m.need_at n) (m.use_at u) ≤ need_gap m x (m.need_step n) (m.use_step u)
  unfolding need_order
  need_gap_lem n u h g a l =
      pair_under (m.need_step n) (m.use_step u) _ _ _ _ (eq-eqb _ _ a) l (need_ge _ _ n u h g).0

  use_gap :
      (n u : ℕ) → n < m.needs → u < m.uses → m.use_level u ≡ m.need_level n → use_tick m x u < need_tick m x n
      → strictly (m.use_at u) (m.need_at n) ≤ need_gap m x (m.use_step u) (m.need_step n)
  unfolding use_order
  use_gap n u h g a l =
      pair_under (m.use_step u) (m.need_step n) _ _ _ _ (eq-eqb _ _ a) l (need_ge _ _ n u h g).1

module _ (m : Model) (x y : ℕ → ℕ) (w : ClockedForm m) (s : Valid m x) (zero : x m.steps ≡ 0) (clock : y m.steps ≡ 0) (o : Obeys m x y) where
  -- what obeys has room for every gap
  roomy : (i k : ℕ) → i < m.steps → k < m.steps → gap_of m x i k ≤ room y i k
  roomy i k h g =
      elim (ℕ_discrete (gap_of m x i k) 0) [ yes z ↦ omega arith | no z ↦ omega (arith, o.keeps i k h g z) ]

  -- a fixed step
  pub fixed_kept_lem : (k : ℕ) → k < m.steps → m.fixed k ≡ 1 → y k ≡ m.start k
  fixed_kept_lem k h f =
      let q : latest_of m x k ≡ m.start k = latest_fixed m x k f in
      omega (arith, limit_fixed m x k f, o.from_limit k h, o.by_latest k h (λ z. omega (arith, w.start_range k h)))

  -- the clock's orders too: they are limits
  from_clock : (k : ℕ) → k < m.steps → clock_gap m x m.steps k ≤ room y m.steps k
  from_clock k h =
      elim (ℕ_discrete (m.fixed k) 1) [
        | yes f ↦ omega (arith, clock_fits m x w s m.steps k, fixed_kept_lem k h f, s.fixed_kept k h f)
        | no f ↦ omega (arith, limit_free m x k f, o.from_limit k h)
      ]

  to_clock : (i : ℕ) → i < m.steps → clock_gap m x i m.steps ≤ room y i m.steps
  to_clock i h =
      elim (ℕ_discrete (m.fixed i) 1) [
        | yes f ↦ omega (arith, clock_fits m x w s i m.steps, fixed_kept_lem i h f, s.fixed_kept i h f)
        | no f ↦
            elim (ℕ_discrete (clock_gap m x i m.steps) 0) [
              | yes z ↦ omega arith
              | no z ↦
                  let l : latest_of m x i ≤ gap_bias - clock_gap m x i m.steps = omega (arith, latest_free m x i f, clock_bound m x i z) in
                  omega (arith, clock_fits m x w s i m.steps, o.by_latest i h (λ n. omega arith))
            ]
      ]

  clock_roomy : (i k : ℕ) → i ≤ m.steps → k ≤ m.steps → (i ≡ k → ⊥) → clock_gap m x i k ≤ room y i k
  clock_roomy i k h g d =
      elim (dec_lt i m.steps) [
        | yes a ↦
            elim (dec_lt k m.steps) [
              | yes b ↦ omega (arith, clock_among m x i k d, roomy i k a b)
              | no b ↦ let e : k ≡ m.steps = omega arith in rw e (to_clock i a)
            ]
        | no a ↦
            let e : i ≡ m.steps = omega arith in
            elim (dec_lt k m.steps) [
              | yes b ↦ rw e (from_clock k b)
              | no b ↦ absurd (d (omega arith))
            ]
      ]

  -- so two points on facts stay in order: by the gap of different steps, or by their places in one step
  keeps_facts :
      {i k gap : ℕ} (p q : ℕ) → i ≤ m.steps → k ≤ m.steps → q ≤ last_timed → strictly p q ≤ gap → gap ≤ clock_gap m x i k
      → x i + p < x k + q
      → y i + p < y k + q
  keeps_facts {i} {k} p q h g b s c l =
      elim (ℕ_discrete i k) [
        | yes e ↦ let a : x i ≡ x k = ap x e in let d : y i ≡ y k = ap y e in omega arith
        | no d ↦ omega (arith, clock_roomy i k h g d)
      ]

  -- and two points on levels
  keeps_points :
      {i k gap : ℕ} (p q : ℕ) → i < m.steps → k < m.steps → q ≤ last_timed → strictly p q ≤ gap
      → ((i ≡ k → ⊥) → gap ≤ gap_of m x i k)
      → x i + p < x k + q
      → y i + p < y k + q
  keeps_points {i} {k} p q h g b s c l =
      elim (ℕ_discrete i k) [
        | yes e ↦ let a : x i ≡ x k = ap x e in let d : y i ≡ y k = ap y e in omega arith
        | no d ↦ omega (arith, c d, roomy i k h g)
      ]

  below : {a b : ℕ} → a < b → a ≤ b
  below l = omega arith

  near : {a : ℕ} → a ≤ longest → a ≤ last_timed
  near l = omega arith

  -- rule 1
  pub kept_support :
      (c : ℕ) → c < m.conditions → (condition_link m x c ≡ initial_state → ⊥) → condition_link m x c < m.effects
      → effect_tick m x (condition_link m x c) < first_tick m x c
      → effect_tick m y (condition_link m x c) < first_tick m y c
  kept_support c h d g l =
      keeps_facts (m.effect_at (condition_link m x c)) (m.condition_from c) (w.effect_step _ g) (below (w.condition_step c h)) (near (from_near m w c h))
      (support_gap_lem m x c h d) (clock_rules m x _ _).0 l

  -- rule 2
  pub kept_opposing :
      (e f : ℕ) → f < m.effects → Opposer m (m.effect_fact f) (m.effect_value f) e → effect_tick m x e < effect_tick m x f
      → effect_tick m y e < effect_tick m y f
  kept_opposing e f h p l =
      keeps_facts (m.effect_at e) (m.effect_at f) (w.effect_step e p.known) (w.effect_step f h) (w.effect_near f h)
      (opposing_gap_lem m x e f h p l) (clock_rules m x _ _).1 l

  -- rule 3
  pub kept_before :
      (c e : ℕ) → c < m.conditions → Opposer m (m.condition_fact c) (m.condition_value c) e → effect_tick m x e < first_tick m x c
      → effect_tick m y e < first_tick m y c
  kept_before c e h p l =
      keeps_facts (m.effect_at e) (m.condition_from c) (w.effect_step e p.known) (below (w.condition_step c h)) (near (from_near m w c h))
      (before_gap m x c e h p l) (clock_rules m x _ _).2 l

  pub kept_after :
      (c e : ℕ) → c < m.conditions → Opposer m (m.condition_fact c) (m.condition_value c) e → last_tick m x c < effect_tick m x e
      → last_tick m y c < effect_tick m y e
  kept_after c e h p l =
      keeps_facts (m.condition_to c) (m.effect_at e) (below (w.condition_step c h)) (w.effect_step e p.known) (w.effect_near e p.known)
      (after_gap m x c e h p l) (clock_rules m x _ _).2 l

  -- rule 4
  pub kept_uses :
      (u v : ℕ) → u < m.uses → v < m.uses → m.use_level u ≡ m.use_level v → use_tick m x u < use_tick m x v
      → use_tick m y u < use_tick m y v
  kept_uses u v h g a l =
      keeps_points (m.use_at u) (m.use_at v) (w.use_step u h) (w.use_step v g) (near (use_near m w v g)) (level_gap_lem m x u v h g a l)
      (λ s. (gap_rules m x _ _ s).3) l

  -- with rule 4: a need before a use of its level, and after one
  pub kept_need :
      (n u : ℕ) → n < m.needs → u < m.uses → m.use_level u ≡ m.need_level n → need_tick m x n < use_tick m x u
      → need_tick m y n < use_tick m y u
  kept_need n u h g a l =
      keeps_points (m.need_at n) (m.use_at u) (w.need_step n h) (w.use_step u g) (near (use_near m w u g)) (need_gap_lem m x n u h g a l)
      (λ s. (gap_rules m x _ _ s).4) l

  pub kept_use :
      (n u : ℕ) → n < m.needs → u < m.uses → m.use_level u ≡ m.need_level n → use_tick m x u < need_tick m x n
      → use_tick m y u < need_tick m y n
  kept_use n u h g a l =
      keeps_points (m.use_at u) (m.need_at n) (w.use_step u g) (w.need_step n h) (near (need_near m w n h)) (use_gap m x n u h g a l)
      (λ s. (gap_rules m x _ _ s).4) l
