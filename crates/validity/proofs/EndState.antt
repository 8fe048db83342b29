-- A sound timing ends with the value set last of each fact, and with each level's initial amount plus the amounts of all its uses.
use Prim.Native.Nat.{ℕ, zero, suc, ◌+◌, ◌<◌}
use mathlib.Core.Path.{◌≡◌, refl, sym, ap, ◌∙◌}
use mathlib.Core.Bool.{Bool, true, false, ◌&&◌, cond, and-true}
use mathlib.Core.Logic.{⊎_elim}
use native.Mathlib.Decide.{ℕ_discrete}
use native.Mathlib.Omega.{arith}
use borrow.Author.Tests.{eqb-true, eq-eqb, lt-ltb}
use lib.Dec.{eqb}
use Rattle.laws.specs.Fold.{sum}
use Rattle.laws.proofs.Fold.{sum_cong}
use Rattle.laws.proofs.Search.{either}
use Rattle.little_endian.specs.Bytes.{sign_bias}
use Rattle.job.specs.Model.{Model}
use Rattle.job.specs.Clocked.{ClockedForm}
use Rattle.validity.specs.declared.Rule.TheVariants.{Effects}
use Rattle.validity.specs.Ticks.{effect_tick}
use Rattle.validity.specs.Seen.{after_all}
use Rattle.validity.specs.Levels.{rise, fall, used_by, rises_before, falls_before, after_uses}
use Rattle.validity.specs.Valid.{Valid}
use Rattle.validity.specs.EndState.{end_value, end_level, SetsLast, over_uses, EndsWith}
use Rattle.validity.proofs.Seen.{latest, latest_ge, latest_at_lem, seen_by_effect, seen_by_initial, after_all_ge}
use Rattle.validity.proofs.Levels.{falls_ascend, after_uses_ge}
use Rattle.validity.proofs.Tested.{agree}
use Rattle.validity.proofs.Kept.{valid_kept}

-- numbers that balance one by one balance in sum
sum_balance :
    (a b c d : ℕ → ℕ) (n : ℕ) → ((k : ℕ) → a k + b k ≡ c k + d k) → sum n a + sum n b ≡ sum n c + sum n d
unfolding sum
sum_balance a b c d zero h = refl
sum_balance a b c d (suc n) h =
    let e : sum n a + sum n b ≡ sum n c + sum n d = sum_balance a b c d n h in
    let g : a n + b n ≡ c n + d n = h n in
    omega arith

-- after all uses, what is before that tick is every use
before_end :
    (m : Model) (x : ℕ → ℕ) (l : ℕ) (amount : ℕ → ℕ)
    → sum m.uses (λ u. cond (used_by m x l (after_uses m x) u) (amount u) 0) ≡ over_uses m l amount
before_end m x l amount =
    sum_cong (λ u. cond (used_by m x l (after_uses m x) u) (amount u) 0) (λ u. cond (eqb (m.use_level u) l) (amount u) 0) m.uses
    (λ u h.
    ap (λ (b : Bool). cond b (amount u) 0)
    (ap (λ (b : Bool). eqb (m.use_level u) l && b) (lt-ltb _ _ (after_uses_ge m x u h)) ∙ and-true (eqb (m.use_level u) l)))

module _ (m : Model) (x : ℕ → ℕ) (l : ℕ) where
  rises_in_all : rises_before m x l (after_uses m x) ≡ over_uses m l (rise m)
  unfolding rises_before
  rises_in_all = before_end m x l (rise m)

  falls_in_all : falls_before m x l (after_uses m x) ≡ over_uses m l (fall m)
  unfolding falls_before
  falls_in_all = before_end m x l (fall m)

  -- what a use rises and falls by is its amount
  amounts : over_uses m l (rise m) + over_uses m l (λ _. sign_bias) ≡ over_uses m l m.use_amount + over_uses m l (fall m)
  amounts =
      sum_balance _ _ _ _ m.uses
      (λ u.
      ⊎_elim
      (λ (t : eqb (m.use_level u) l ≡ true). rw t (omega arith))
      (λ (f : eqb (m.use_level u) l ≡ false). rw f (omega arith))
      (either (eqb (m.use_level u) l)))

module _ (m : Model) (x : ℕ → ℕ) (w : ClockedForm m) (v : Valid m x) where
  -- no use falls by more than the level has
  end_level_lem : (l : ℕ) → l < m.levels → end_level m x l + over_uses m l (λ _. sign_bias) ≡ m.level_initial l + over_uses m l m.use_amount
  end_level_lem l h =
      omega (
        arith,
        v.level_low l (after_uses m x) h,
        falls_ascend m x l (after_uses m x) (suc (after_uses m x)) (omega arith),
        rises_in_all m x l,
        falls_in_all m x l,
        amounts m x l,
      )

  last_value : (f e : ℕ) → SetsLast m x f e → end_value m x f ≡ m.effect_value e
  last_value f e s =
      let b = w.effect_value e s.known in
      seen_by_effect m x f (m.effect_value e) (after_all m x) e b (record { known = s.known; of_fact = s.on_fact; of_value = refl })
      (after_all_ge m x e s.known)
      (λ d g _.
      elim (ℕ_discrete (effect_tick m x d) (effect_tick m x e)) [
        | yes t ↦
            let a = agree m x w (valid_kept m x v Effects) d e g.known s.known (g.of_fact ∙ sym s.on_fact) t in
            absurd (omega (arith, a, b, g.of_value))
        | no t ↦ omega (arith, s.latest d g.known g.of_fact)
      ])

  some_last_lem : (f e : ℕ) → e < m.effects → m.effect_fact e ≡ f → (l : ℕ) × SetsLast m x f l
  some_last_lem f e h a =
      let p : ℕ → Bool = λ d. eqb (m.effect_fact d) f in
      let le : (d : ℕ) → d < m.effects → m.effect_fact d ≡ f → effect_tick m x d < latest m.effects p (effect_tick m x) =
      λ d k q. latest_ge m.effects p (effect_tick m x) d k (eq-eqb _ _ q)
      in
      ⊎_elim
      (λ (z : latest m.effects p (effect_tick m x) ≡ 0). absurd (omega (arith, le e h a)))
      (λ (w : (k : ℕ) × (k < m.effects) × (p k ≡ true) × (suc (effect_tick m x k) ≡ latest m.effects p (effect_tick m x))).
      (w.0, record { known = w.1; on_fact = eqb-true _ _ w.2; latest = λ d k q. omega (arith, le d k q, w.3) }))
      (latest_at_lem m.effects p (effect_tick m x))

  pub valid_ends : EndsWith m x
  valid_ends =
      record {
        facts = last_value;
        some_last = some_last_lem;
        unset = λ f h none. seen_by_initial m x f (m.initial f) (after_all m x) (w.initial_value f h) refl (λ e g _. none e g.known g.of_fact);
        levels = end_level_lem;
      }
