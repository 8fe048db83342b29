-- A list of starts moved to what orders say: the order in which it happens does not matter, and of several the tightest counts.
use Prim.Native.Nat.{ℕ, ◌+◌, ◌≤◌, ◌<◌}
use mathlib.Core.Path.{◌≡◌, refl, sym, ap, subst, ◌∙◌}
use mathlib.Core.List.{List}
use mathlib.Core.Logic.{◌⊎◌, inl, inr, ⊎_elim}
use native.Mathlib.Decide.{ℕ_discrete}
use native.Mathlib.Omega.{arith}
use lib.ListN.{length, set, length-set}
use lib.Seq.{get_or-set_same, get_or-set_other}
use Rattle.std.specs.Prelude.{Option, Some}
use Rattle.order_file.specs.Table.{start_in}
use Rattle.moves.specs.Moved.{Up, Down, Moved, Single, Among, After, Before, start_after, start_before}

pub up_same : (a : ℕ) → Up a a
up_same a = omega arith

pub up_on : (a b c : ℕ) → Up a b → Up b c → Up a c
up_on a b c p q = omega arith

pub down_same : (a : ℕ) → Down a a
down_same a = omega arith

pub down_on : (a b c : ℕ) → Down a b → Down b c → Down a c
down_on a b c p q = omega arith

module _ (To : ℕ → ℕ → Type 0) (same : (a : ℕ) → To a a) (on : (a b c : ℕ) → To a b → To b c → To a c) where
  -- no orders, and the same orders said otherwise
  pub moved_none : (Order : ℕ → ℕ → Type 0) (list : List ℕ) → ((k v : ℕ) → Order k v → ⊥) → Moved To Order list list
  moved_none Order list none =
      record { size = refl; moves = λ k. same (start_in list k); reaches = λ k v o. absurd (none k v o); least = λ k bound h all. h }

  pub moved_is :
      (P Q : ℕ → ℕ → Type 0) (before after : List ℕ) → Moved To P before after → ((k v : ℕ) → P k v → Q k v)
      → ((k v : ℕ) → Q k v → P k v)
      → Moved To Q before after
  moved_is P Q before after w to from =
      record {
        size = w.size;
        moves = w.moves;
        reaches = λ k v o. w.reaches k v (from k v o);
        least = λ k bound h all. w.least k bound h (λ v o. all v (to k v o));
      }

  -- first the orders P, then the orders Q
  moved_then :
      (P Q R : ℕ → ℕ → Type 0) (before mid after : List ℕ) → Moved To P before mid → Moved To Q mid after
      → ((k v : ℕ) → P k v → R k v)
      → ((k v : ℕ) → Q k v → R k v)
      → ((k v : ℕ) → R k v → P k v ⊎ Q k v)
      → Moved To R before after
  moved_then P Q R before mid after v w p q r =
      record {
        size = w.size ∙ v.size;
        moves = λ k. on _ _ _ (v.moves k) (w.moves k);
        reaches = λ k start o.
            ⊎_elim
            (λ (s : P k start). on _ _ _ (v.reaches k start s) (w.moves k))
            (λ (s : Q k start). w.reaches k start s)
            (r k start o);
        least = λ k bound h all.
            w.least k bound (v.least k bound h (λ start o. all start (p k start o))) (λ start o. all start (q k start o));
      }

  pub moved_either :
      (P Q : ℕ → ℕ → Type 0) (before mid after : List ℕ) → Moved To P before mid → Moved To Q mid after
      → Moved To (λ k v. P k v ⊎ Q k v) before after
  moved_either P Q before mid after v w =
      moved_then P Q (λ k v. P k v ⊎ Q k v) before mid after v w (λ k v o. inl o) (λ k v o. inr o) (λ k v o. o)

  -- the orders of numbers: none, one more, and all
  pub moved_empty : (Order : ℕ → ℕ → ℕ → Type 0) (list : List ℕ) (low : ℕ) → Moved To (Among low low Order) list list
  moved_empty Order list low = moved_none (Among low low Order) list (λ k v o. absurd (omega (arith, o.1, o.2)))

  pub moved_more :
      (Order : ℕ → ℕ → ℕ → Type 0) (before mid after : List ℕ) (low p : ℕ) → low ≤ p → Moved To (Among low p Order) before mid
      → Moved To (Order p) mid after
      → Moved To (Among low (p + 1) Order) before after
  moved_more Order before mid after low p h v w =
      moved_then (Among low p Order) (Order p) (Among low (p + 1) Order) before mid after v w
      (λ k v o. (o.0, o.1, omega (arith, o.2), o.3))
      (λ k v o. (p, h, omega arith, o))
      (λ k v o.
      elim (ℕ_discrete o.0 p) [
        | yes e ↦ inr (subst (λ j. Order j k v) e o.3)
        | no e ↦ inl (o.0, o.1, omega (arith, o.2, e), o.3)
      ])

  pub moved_all :
      (Order : ℕ → ℕ → ℕ → Type 0) (before after : List ℕ) (low high p : ℕ) → p ≤ high → high ≤ p
      → Moved To (Among low p Order) before after
      → Moved To (Among low high Order) before after
  moved_all Order before after low high p a b w =
      let e : p ≡ high = omega arith in
      subst (λ q. Moved To (Among low q Order) before after) e w

  -- one start, moved as far as is said of it and no further
  pub moved_met :
      (list : List ℕ) (step start v : ℕ) → step < length list → To (start_in list step) v → To start v
      → ((bound : ℕ) → To (start_in list step) bound → To start bound → To v bound)
      → Moved To (Single step start) list (set list step v)
  moved_met list step start v l h met low =
      record {
        size = length-set list step v;
        moves = λ k.
            elim (ℕ_discrete k step) [
              | yes q ↦ subst (λ i. To (start_in list i) (start_in (set list step v) i)) (sym q) (subst (To (start_in list step)) (sym here) h)
              | no q ↦ subst (To (start_in list k)) (sym (there k q)) (same (start_in list k))
            ];
        reaches = λ k t o.
            subst (λ i. To t (start_in (set list step v) i)) o.0
            (subst (λ u. To u (start_in (set list step v) step)) (sym o.1) (subst (To start) (sym here) met));
        least = λ k bound g all.
            elim (ℕ_discrete k step) [
              | yes q ↦
                  subst (λ t. To t bound) (sym (ap (start_in (set list step v)) q ∙ here))
                  (low bound (subst (λ i. To (start_in list i) bound) q g) (all start (sym q, refl)))
              | no q ↦ subst (λ t. To t bound) (sym (there k q)) g
            ];
      }
    where
      here : start_in (set list step v) step ≡ v
      here = get_or-set_same list step v 0 l

      there : (k : ℕ) → (k ≡ step → ⊥) → start_in (set list step v) k ≡ start_in list k
      there k d = get_or-set_other list step k v 0 d

  -- an order of a single step that two tests allow, or not
  module _ (A B : Type 0) (step start : ℕ) where
    pub allowed_one :
        (before after : List ℕ) {step' start' : ℕ} → A → B → step' ≡ step → start' ≡ start → Moved To (Single step' start') before after
        → Moved To (λ k v. A × B × (step ≡ k) × (v ≡ start)) before after
    allowed_one before after {step'} {start'} a b e q w =
        moved_is (Single step' start') (λ k v. A × B × (step ≡ k) × (v ≡ start)) before after w
        (λ k v o. (a, b, sym e ∙ o.0, o.1 ∙ q))
        (λ k v o. (e ∙ o.2, o.3 ∙ sym q))

    pub allowed_none : (list : List ℕ) → (A → B → ⊥) → Moved To (λ k v. A × B × (step ≡ k) × (v ≡ start)) list list
    allowed_none list d = moved_none (λ k v. A × B × (step ≡ k) × (v ≡ start)) list (λ k v o. d o.0 o.1)

-- an order to come after a tick, and one to come before it
pub after_one :
    {last : Option ℕ} {tick step : ℕ} (at : ℕ) (before after : List ℕ) → last ≡ Some tick
    → Moved Up (Single step (start_after tick at)) before after
    → Moved Up (After last step at) before after
after_one {last} {tick} {step} at before after e w =
    moved_is Up up_same up_on (Single step (start_after tick at)) (After last step at) before after w
    (λ k v o. (tick, e, o.0, o.1))
    (λ k v o. let same : o.0 ≡ tick = cc (o.1, e) in (o.2, o.3 ∙ ap (λ t. start_after t at) same))

pub before_one :
    {next : Option ℕ} {tick step : ℕ} (at : ℕ) (before after : List ℕ) → next ≡ Some tick
    → Moved Down (Single step (start_before tick at)) before after
    → Moved Down (Before next step at) before after
before_one {next} {tick} {step} at before after e w =
    moved_is Down down_same down_on (Single step (start_before tick at)) (Before next step at) before after w
    (λ k v o. (tick, e, o.0, o.1))
    (λ k v o. let same : o.0 ≡ tick = cc (o.1, e) in (o.2, o.3 ∙ ap (λ t. start_before t at) same))
