-- Laws of the value seen: what sets a fact last, what is seen for it, what a seen value tells, and how long it stays.
use Prim.Native.Nat.{ℕ, zero, suc, ◌-◌, ◌≤◌, ◌<◌}
use mathlib.Core.Path.{◌≡◌, sym, ap, ap₂, ◌∙◌}
use mathlib.Core.Bool.{Bool, true, false, ◌&&◌, cond}
use mathlib.Core.Logic.{◌⊎◌, inl, inr, ⊎_elim}
use native.Mathlib.Decide.{dec_lt}
use native.Mathlib.Omega.{arith}
use borrow.Author.Tests.{ltb-true, eqb-true, lt-ltb, le-ltb, eq-eqb}
use lib.Dec.{ltb}
use Rattle.laws.specs.Fold.{largest}
use Rattle.laws.proofs.Search.{either, by_order, and_both}
use Rattle.laws.proofs.Fold.{largest_ge, largest_at}
use Rattle.job.specs.Model.{Model}
use Rattle.validity.specs.Ticks.{effect_tick, gives}
use Rattle.validity.specs.Seen.{given_at, last_given, seen, after_all}

-- one more than the latest tick of an index that passes, 0 where none does
abbrev pub latest : ℕ → (ℕ → Bool) → (ℕ → ℕ) → ℕ
latest n p tick = largest n (λ k. cond (p k) (suc (tick k)) 0)

module _ (n : ℕ) (p : ℕ → Bool) (tick : ℕ → ℕ) where
  pub latest_ge : (k : ℕ) → k < n → p k ≡ true → tick k < latest n p tick
  latest_ge k h t =
      let q : cond (p k) (suc (tick k)) 0 ≡ suc (tick k) = ap (λ b. cond b (suc (tick k)) 0) t in
      omega (arith, largest_ge (λ k. cond (p k) (suc (tick k)) 0) n k h)

  pub latest_at_lem : (latest n p tick ≡ 0) ⊎ ((k : ℕ) × (k < n) × (p k ≡ true) × (suc (tick k) ≡ latest n p tick))
  latest_at_lem =
      ⊎_elim
      (λ (z : latest n p tick ≡ 0). inl z)
      (λ (w : (k : ℕ) × (k < n) × (cond (p k) (suc (tick k)) 0 ≡ latest n p tick)).
      ⊎_elim
      (λ (t : p w.0 ≡ true). inr (w.0, w.1, t, sym (ap (λ b. cond b (suc (tick w.0)) 0) t) ∙ w.2))
      (λ (f : p w.0 ≡ false). inl (sym w.2 ∙ ap (λ b. cond b (suc (tick w.0)) 0) f))
      (either (p w.0)))
      (largest_at (λ k. cond (p k) (suc (tick k)) 0) n)

-- effect e gives the fact that value
pub record Giver (m : Model) (fact value e : ℕ) : Type 0 where
  pub known : e < m.effects
  pub of_fact : m.effect_fact e ≡ fact
  pub of_value : m.effect_value e ≡ value

-- a giver before t at the last tick of one
abbrev pub LastGiver : Model → (ℕ → ℕ) → ℕ → ℕ → ℕ → Type 0
LastGiver m x fact v t = (e : ℕ) × Giver m fact v e × (effect_tick m x e < t) × (suc (effect_tick m x e) ≡ last_given m x fact v t)

-- a giver before t, after all that opposes before t
abbrev pub LaterGiver : Model → (ℕ → ℕ) → ℕ → ℕ → ℕ → Type 0
LaterGiver m x fact v t = (e : ℕ) × Giver m fact v e × (effect_tick m x e < t) × (last_given m x fact (1 - v) t ≤ effect_tick m x e)

module _ (m : Model) (x : ℕ → ℕ) (fact : ℕ) where
  -- a giver before t is at most the last one
  pub last_given_ge : (v t e : ℕ) → Giver m fact v e → effect_tick m x e < t → effect_tick m x e < last_given m x fact v t
  unfolding last_given given_at
  last_given_ge v t e g h =
      latest_ge m.effects (λ e. gives m e fact v && ltb (effect_tick m x e) t) (effect_tick m x) e g.known
      (ap₂ ◌&&◌ (ap₂ ◌&&◌ (eq-eqb _ _ g.of_fact) (eq-eqb _ _ g.of_value)) (lt-ltb _ _ h))

  -- nothing has set the value, or a giver is the last one
  pub last_given_at : (v t : ℕ) → (last_given m x fact v t ≡ 0) ⊎ LastGiver m x fact v t
  unfolding last_given given_at
  last_given_at v t =
      let p : ℕ → Bool = λ e. gives m e fact v && ltb (effect_tick m x e) t in
      ⊎_elim
      (λ (z : last_given m x fact v t ≡ 0). inl z)
      (λ (w : (e : ℕ) × (e < m.effects) × (p e ≡ true) × (suc (effect_tick m x e) ≡ last_given m x fact v t)).
      let b = and_both (gives m w.0 fact v) (ltb (effect_tick m x w.0) t) w.2 in
      let c = and_both _ _ b.0 in
      inr (w.0, record { known = w.1; of_fact = eqb-true _ _ c.0; of_value = eqb-true _ _ c.1 }, ltb-true _ _ b.1, w.3))
      (latest_at_lem m.effects p (effect_tick m x))

  -- what bounds every giver before t bounds the last one
  pub last_given_le :
      (v t b : ℕ) → ((e : ℕ) → Giver m fact v e → effect_tick m x e < t → effect_tick m x e < b) → last_given m x fact v t ≤ b
  last_given_le v t b h =
      ⊎_elim
      (λ (z : last_given m x fact v t ≡ 0). omega arith)
      (λ (w : LastGiver m x fact v t). omega (arith, h w.0 w.1 w.2, w.3))
      (last_given_at v t)

  -- where every giver before t lies before t', the last one is no later there
  pub last_given_grows :
      (v t t' : ℕ) → ((e : ℕ) → Giver m fact v e → effect_tick m x e < t → effect_tick m x e < t')
      → last_given m x fact v t ≤ last_given m x fact v t'
  last_given_grows v t t' h = last_given_le v t (last_given m x fact v t') (λ e g l. last_given_ge v t' e g (h e g l))

  -- the later of the two values is seen, and the initial value where neither is later
  pub seen_later : (v t : ℕ) → v ≤ 1 → last_given m x fact (1 - v) t < last_given m x fact v t → seen m x fact t ≡ v
  unfolding seen
  seen_later zero t b h = simp (lt-ltb _ _ h, le-ltb (last_given m x fact 0 t) (last_given m x fact 1 t) (omega arith))
  seen_later (suc zero) t b h = simp (lt-ltb _ _ h)
  seen_later (suc (suc v)) t b h = absurd (omega arith)

  tied : (t : ℕ) → last_given m x fact 0 t ≡ last_given m x fact 1 t → seen m x fact t ≡ m.initial fact
  unfolding seen
  tied t h =
      let z = last_given m x fact 0 t in
      let o = last_given m x fact 1 t in
      rw (le-ltb z o (omega arith), le-ltb o z (omega arith))

  pub seen_tied : (v t : ℕ) → v ≤ 1 → last_given m x fact (1 - v) t ≡ last_given m x fact v t → seen m x fact t ≡ m.initial fact
  seen_tied zero t b h = tied t (sym h)
  seen_tied (suc zero) t b h = tied t h
  seen_tied (suc (suc v)) t b h = absurd (omega arith)

  -- a value is seen exactly where the other was not set later, and where neither was, it is the initial one
  pub seen_is :
      (v t : ℕ) → v ≤ 1 → last_given m x fact (1 - v) t ≤ last_given m x fact v t
      → (last_given m x fact (1 - v) t ≡ last_given m x fact v t → m.initial fact ≡ v)
      → seen m x fact t ≡ v
  seen_is v t b h i =
      elim (dec_lt (last_given m x fact (1 - v) t) (last_given m x fact v t)) [
        | yes l ↦ seen_later v t b l
        | no l ↦ let e : last_given m x fact (1 - v) t ≡ last_given m x fact v t = omega arith in seen_tied v t b e ∙ i e
      ]

  pub seen_tells :
      (v t : ℕ) → v ≤ 1 → seen m x fact t ≡ v
      → (last_given m x fact (1 - v) t ≤ last_given m x fact v t) × (last_given m x fact (1 - v) t ≡ last_given m x fact v t → m.initial fact ≡ v)
  seen_tells v t b h =
      by_order (last_given m x fact (1 - v) t) (last_given m x fact v t)
      (λ l. (omega arith, λ e. absurd (omega arith)))
      (λ l.
      let o : 1 - (1 - v) ≡ v = omega arith in
      let s : seen m x fact t ≡ 1 - v = seen_later (1 - v) t (omega arith) (rw o l) in
      absurd (omega arith))
      (λ e. (omega arith, λ _. sym (seen_tied v t b e) ∙ h))

  -- a giver before t, with every opposing one before t before it
  pub seen_by_effect :
      (v t e : ℕ) → v ≤ 1 → Giver m fact v e → effect_tick m x e < t
      → ((f : ℕ) → Giver m fact (1 - v) f → effect_tick m x f < t → effect_tick m x f < effect_tick m x e)
      → seen m x fact t ≡ v
  seen_by_effect v t e b g h o =
      seen_later v t b (omega (arith, last_given_ge v t e g h, last_given_le (1 - v) t (effect_tick m x e) o))

  -- the initial value, with nothing opposing before t
  pub seen_by_initial :
      (v t : ℕ) → v ≤ 1 → m.initial fact ≡ v → ((f : ℕ) → Giver m fact (1 - v) f → effect_tick m x f < t → ⊥) → seen m x fact t ≡ v
  seen_by_initial v t b i o =
      let z : last_given m x fact (1 - v) t ≤ 0 = last_given_le (1 - v) t 0 (λ f g h. absurd (o f g h)) in
      seen_is v t b (omega arith) (λ _. i)

  -- the other value, by an effect that opposes v after every giver of v before t
  pub seen_other :
      (v t f : ℕ) → v ≤ 1 → Giver m fact (1 - v) f → effect_tick m x f < t
      → ((e : ℕ) → Giver m fact v e → effect_tick m x e < t → effect_tick m x e < effect_tick m x f)
      → seen m x fact t ≡ 1 - v
  seen_other v t f b g h o =
      let q : 1 - (1 - v) ≡ v = omega arith in
      seen_by_effect (1 - v) t f (omega arith) g h (rw q o)

  -- why a value is seen: a giver after the last opposing effect, or the initial value where neither was set later
  pub seen_why :
      (v t : ℕ) → v ≤ 1 → seen m x fact t ≡ v
      → LaterGiver m x fact v t ⊎ ((m.initial fact ≡ v) × (last_given m x fact (1 - v) t ≡ last_given m x fact v t))
  seen_why v t b h =
      let w = seen_tells v t b h in
      by_order (last_given m x fact (1 - v) t) (last_given m x fact v t)
      (λ l.
      ⊎_elim
      (λ (z : last_given m x fact v t ≡ 0). absurd (omega arith))
      (λ (g : LastGiver m x fact v t). inl (g.0, g.1, g.2, omega arith))
      (last_given_at v t))
      (λ l. absurd (omega arith))
      (λ e. inr (w.1 e, e))

  -- where no two opposing effects share a tick, the initial value is seen only before any opposing effect
  pub seen_why_apart :
      (v t : ℕ) → v ≤ 1 → ((e f : ℕ) → Giver m fact v e → Giver m fact (1 - v) f → effect_tick m x e ≡ effect_tick m x f → ⊥)
      → seen m x fact t ≡ v
      → LaterGiver m x fact v t ⊎ ((m.initial fact ≡ v) × (last_given m x fact (1 - v) t ≡ 0))
  seen_why_apart v t b a h =
      ⊎_elim
      (λ (g : LaterGiver m x fact v t). inl g)
      (λ (i : (m.initial fact ≡ v) × (last_given m x fact (1 - v) t ≡ last_given m x fact v t)).
      ⊎_elim
      (λ (z : last_given m x fact (1 - v) t ≡ 0). inr (i.0, z))
      (λ (f : LastGiver m x fact (1 - v) t).
      ⊎_elim
      (λ (z : last_given m x fact v t ≡ 0). absurd (omega arith))
      (λ (e : LastGiver m x fact v t). absurd (a e.0 f.0 e.1 f.1 (omega arith)))
      (last_given_at v t))
      (last_given_at (1 - v) t))
      (seen_why v t b h)

  -- a value stays until an effect opposes it
  pub seen_persists :
      (v t t' : ℕ) → v ≤ 1 → t ≤ t' → ((f : ℕ) → Giver m fact (1 - v) f → t ≤ effect_tick m x f → effect_tick m x f < t' → ⊥)
      → seen m x fact t ≡ v
      → seen m x fact t' ≡ v
  seen_persists v t t' b l o h =
      let w = seen_tells v t b h in
      let p : last_given m x fact (1 - v) t' ≤ last_given m x fact (1 - v) t =
      last_given_grows (1 - v) t' t
      (λ f g k. elim (dec_lt (effect_tick m x f) t) [ yes r ↦ r | no r ↦ absurd (o f g (omega arith) k) ])
      in
      let q : last_given m x fact v t ≤ last_given m x fact v t' = last_given_grows v t t' (λ e g k. omega arith) in
      seen_is v t' b (omega (arith, w.0)) (λ e. w.1 (omega (arith, w.0)))

  -- the value seen is a value
  pub seen_value : (t : ℕ) → m.initial fact ≤ 1 → seen m x fact t ≤ 1
  seen_value t i =
      by_order (last_given m x fact 0 t) (last_given m x fact 1 t)
      (λ l. let e : seen m x fact t ≡ 1 = seen_later 1 t (omega arith) l in omega arith)
      (λ l. let e : seen m x fact t ≡ 0 = seen_later 0 t (omega arith) l in omega arith)
      (λ q. let e : seen m x fact t ≡ m.initial fact = seen_tied 1 t (omega arith) q in omega arith)

-- every effect lies before the tick after all
pub after_all_ge : (m : Model) (x : ℕ → ℕ) (e : ℕ) → e < m.effects → effect_tick m x e < after_all m x
unfolding after_all
after_all_ge m x e h = largest_ge (λ e. suc (effect_tick m x e)) m.effects e h
