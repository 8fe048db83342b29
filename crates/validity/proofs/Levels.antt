-- Laws of levels: the rises and falls before a tick depend only on which uses lie before it.
use Prim.Native.Nat.{ℕ, suc, ◌≤◌, ◌<◌}
use mathlib.Core.Path.{◌≡◌, ap₂}
use mathlib.Core.Bool.{Bool, true, false, ◌&&◌, cond}
use mathlib.Core.Logic.{◌⊎◌, inl, inr, ⊎_elim}
use native.Mathlib.Omega.{arith}
use borrow.Author.Tests.{ltb-true, eqb-true, lt-ltb, eq-eqb}
use lib.Dec.{ltb, eqb}
use Rattle.laws.specs.Fold.{sum}
use Rattle.laws.proofs.Search.{either, and_both}
use Rattle.laws.proofs.Fold.{largest_ge, sum_le}
use Rattle.job.specs.Model.{Model}
use Rattle.validity.specs.Ticks.{use_tick}
use Rattle.validity.specs.Levels.{rise, fall, used_by, rises_before, falls_before, after_uses}
use Rattle.validity.proofs.Seen.{latest, latest_ge, latest_at_lem}

-- every use of the level before t in x is before t' in y
abbrev pub Within : Model → (ℕ → ℕ) → (ℕ → ℕ) → ℕ → ℕ → ℕ → Type 0
Within m x y l t t' = (u : ℕ) → u < m.uses → m.use_level u ≡ l → use_tick m x u < t → use_tick m y u < t'

-- what the uses before t in x amount to is then at most what those before t' in y do
amounts_within :
    (m : Model) (x y : ℕ → ℕ) (l t t' : ℕ) (amount : ℕ → ℕ) → Within m x y l t t'
    → sum m.uses (λ u. cond (used_by m x l t u) (amount u) 0) ≤ sum m.uses (λ u. cond (used_by m y l t' u) (amount u) 0)
amounts_within m x y l t t' amount h =
    sum_le (λ u. cond (used_by m x l t u) (amount u) 0) (λ u. cond (used_by m y l t' u) (amount u) 0) m.uses
    (λ u k.
    ⊎_elim
    (λ (e : used_by m x l t u ≡ true).
    let b = and_both _ _ e in
    let f : used_by m y l t' u ≡ true = ap₂ ◌&&◌ b.0 (lt-ltb _ _ (h u k (eqb-true _ _ b.0) (ltb-true _ _ b.1))) in
    rw (e, f) (omega arith))
    (λ (e : used_by m x l t u ≡ false). rw e (omega arith))
    (either (used_by m x l t u)))

module _ (m : Model) (x y : ℕ → ℕ) (l t t' : ℕ) where
  pub rises_within : Within m x y l t t' → rises_before m x l t ≤ rises_before m y l t'
  unfolding rises_before
  rises_within h = amounts_within m x y l t t' (rise m) h

  pub falls_within : Within m x y l t t' → falls_before m x l t ≤ falls_before m y l t'
  unfolding falls_before
  falls_within h = amounts_within m x y l t t' (fall m) h

-- equal where the same uses lie before
module _ (m : Model) (x y : ℕ → ℕ) (l t t' : ℕ) where
  pub rises_same : Within m x y l t t' → Within m y x l t' t → rises_before m x l t ≡ rises_before m y l t'
  rises_same h k = omega (arith, rises_within m x y l t t' h, rises_within m y x l t' t k)

  pub falls_same : Within m x y l t t' → Within m y x l t' t → falls_before m x l t ≡ falls_before m y l t'
  falls_same h k = omega (arith, falls_within m x y l t t' h, falls_within m y x l t' t k)

module _ (m : Model) (x : ℕ → ℕ) (l : ℕ) where
  -- ascending in the tick
  pub rises_ascend : (t t' : ℕ) → t ≤ t' → rises_before m x l t ≤ rises_before m x l t'
  rises_ascend t t' h = rises_within m x x l t t' (λ u k q b. omega arith)

  pub falls_ascend : (t t' : ℕ) → t ≤ t' → falls_before m x l t ≤ falls_before m x l t'
  falls_ascend t t' h = falls_within m x x l t t' (λ u k q b. omega arith)

  -- equal at two ticks with no use of the level between them
  pub rises_idle :
      (t t' : ℕ) → t ≤ t' → ((u : ℕ) → u < m.uses → m.use_level u ≡ l → use_tick m x u < t' → use_tick m x u < t)
      → rises_before m x l t' ≡ rises_before m x l t
  rises_idle t t' h k = rises_same m x x l t' t k (λ u _ q b. omega arith)

  pub falls_idle :
      (t t' : ℕ) → t ≤ t' → ((u : ℕ) → u < m.uses → m.use_level u ≡ l → use_tick m x u < t' → use_tick m x u < t)
      → falls_before m x l t' ≡ falls_before m x l t
  falls_idle t t' h k = falls_same m x x l t' t k (λ u _ q b. omega arith)

-- every use lies before the tick after all uses
pub after_uses_ge : (m : Model) (x : ℕ → ℕ) (u : ℕ) → u < m.uses → use_tick m x u < after_uses m x
unfolding after_uses
after_uses_ge m x u h = largest_ge (λ u. suc (use_tick m x u)) m.uses u h

-- after all uses a level has risen and fallen alike in any two schedules
module _ (m : Model) (x y : ℕ → ℕ) (l : ℕ) where
  pub rises_end : rises_before m x l (after_uses m x) ≡ rises_before m y l (after_uses m y)
  rises_end = rises_same m x y l (after_uses m x) (after_uses m y) (λ u h _ _. after_uses_ge m y u h) (λ u h _ _. after_uses_ge m x u h)

  pub falls_end : falls_before m x l (after_uses m x) ≡ falls_before m y l (after_uses m y)
  falls_end = falls_same m x y l (after_uses m x) (after_uses m y) (λ u h _ _. after_uses_ge m y u h) (λ u h _ _. after_uses_ge m x u h)

-- the last use of a level before t, or none
pub last_use :
    (m : Model) (x : ℕ → ℕ) (l t : ℕ)
    → ((u : ℕ) → u < m.uses → m.use_level u ≡ l → use_tick m x u < t → ⊥)
    ⊎ ((u : ℕ) × (u < m.uses) × (m.use_level u ≡ l) × (use_tick m x u < t)
    × ((v : ℕ) → v < m.uses → m.use_level v ≡ l → use_tick m x v < t → use_tick m x v ≤ use_tick m x u))
last_use m x l t =
    let p : ℕ → Bool = used_by m x l t in
    let le : (u : ℕ) → u < m.uses → m.use_level u ≡ l → use_tick m x u < t → use_tick m x u < latest m.uses p (use_tick m x) =
    λ u h a g. latest_ge m.uses p (use_tick m x) u h (ap₂ ◌&&◌ (eq-eqb _ _ a) (lt-ltb _ _ g))
    in
    ⊎_elim
    (λ (z : latest m.uses p (use_tick m x) ≡ 0). inl (λ u h a g. omega (arith, le u h a g)))
    (λ (w : (u : ℕ) × (u < m.uses) × (p u ≡ true) × (suc (use_tick m x u) ≡ latest m.uses p (use_tick m x))).
    let b = and_both (eqb (m.use_level w.0) l) (ltb (use_tick m x w.0) t) w.2 in
    inr (w.0, w.1, eqb-true _ _ b.0, ltb-true _ _ b.1, λ v h a g. omega (arith, le v h a g, w.3)))
    (latest_at_lem m.uses p (use_tick m x))
