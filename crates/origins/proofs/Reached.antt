-- A table raised to what orders say: the order in which it happens does not matter, and of two orders the larger counts.
use Prim.Native.Nat.{ℕ, ◌+◌, ◌≤◌, ◌<◌, max}
use mathlib.Core.Path.{◌≡◌, refl, sym, subst, ◌∙◌}
use mathlib.Core.List.{List}
use mathlib.Core.Logic.{◌⊎◌, inl, inr, ⊎_elim}
use native.Mathlib.Decide.{ℕ_discrete, dec_lt}
use native.Mathlib.Omega.{arith}
use Rattle.order_file.specs.Table.{gap_in, row_width}
use Rattle.origins.specs.Raised.{single}
use Rattle.origins.specs.Raised.{Raised}
use Rattle.origins.specs.Points.{Apart, Reached, Among}
use Rattle.origins.proofs.Raised.{single_is, single_off, raised_one}
use Rattle.order_file.specs.Contents.{step_limit}

-- no orders, and the same orders said otherwise
pub reached_none :
    (n : ℕ) (Order : ℕ → ℕ → ℕ → Type 0) (gaps : List ℕ) → ((i k gap : ℕ) → Order i k gap → ⊥) → Reached n Order gaps gaps
reached_none n Order gaps none =
    record {
      whole = λ g. g;
      rest = λ i k h d out. refl;
      rises = λ i k a. omega arith;
      reaches = λ i k gap a o. absurd (none i k gap o);
      least = λ i k bound a h b. h;
    }

pub reached_is :
    (n : ℕ) (P Q : ℕ → ℕ → ℕ → Type 0) (before after : List ℕ) → Reached n P before after
    → ((i k gap : ℕ) → Apart n i k → P i k gap → (gap ≡ 0) ⊎ Q i k gap)
    → ((i k gap : ℕ) → Apart n i k → Q i k gap → (more : ℕ) × (gap ≤ more) × P i k more)
    → Reached n Q before after
reached_is n P Q before after w to from =
    record {
      whole = w.whole;
      rest = w.rest;
      rises = w.rises;
      reaches = λ i k gap a o. let m = from i k gap a o in omega (arith, m.1, w.reaches i k m.0 a m.2);
      least = λ i k bound a h all.
          w.least i k bound a h (λ gap o. ⊎_elim (λ (z : gap ≡ 0). omega arith) (λ (q : Q i k gap). all gap q) (to i k gap a o));
    }

-- orders between steps below n alone
pub reached_narrow :
    (n wide : ℕ) (Order : ℕ → ℕ → ℕ → Type 0) (before after : List ℕ) → n ≤ wide → Reached wide Order before after
    → ((i k gap : ℕ) → Apart wide i k → Order i k gap → (i < n) × (k < n))
    → Reached n Order before after
reached_narrow n wide Order before after few w inside =
    record {
      whole = w.whole;
      rest = λ i k h q d.
          elim (dec_lt i wide) [
            | yes l ↦
                elim (dec_lt k wide) [
                  | yes r ↦ still i k (l, r, q) d
                  | no r ↦ w.rest i k h q (λ a. r a.1)
                ]
            | no l ↦ w.rest i k h q (λ a. l a.0)
          ];
      rises = λ i k a. w.rises i k (wider i k a);
      reaches = λ i k gap a o. w.reaches i k gap (wider i k a) o;
      least = λ i k bound a h all. w.least i k bound (wider i k a) h all;
    }
  where
    wider : (i k : ℕ) → Apart n i k → Apart wide i k
    wider i k a = (omega (arith, a.0), omega (arith, a.1), a.2)

    still : (i k : ℕ) → Apart wide i k → (Apart n i k → ⊥) → gap_in after i k ≡ gap_in before i k
    still i k a d =
        let none = w.least i k (gap_in before i k) a (omega arith)
        (λ gap o. let b = inside i k gap a o in absurd (d (b.0, b.1, a.2)))
        in omega (arith, w.rises i k a, none)

-- first the orders P, then the orders Q
reached_then :
    (n : ℕ) (P Q R : ℕ → ℕ → ℕ → Type 0) (before mid after : List ℕ) → Reached n P before mid → Reached n Q mid after
    → ((i k gap : ℕ) → P i k gap → R i k gap)
    → ((i k gap : ℕ) → Q i k gap → R i k gap)
    → ((i k gap : ℕ) → R i k gap → P i k gap ⊎ Q i k gap)
    → Reached n R before after
reached_then n P Q R before mid after v w p q r =
    record {
      whole = λ g. w.whole (v.whole g);
      rest = λ i k h d out. w.rest i k h d out ∙ v.rest i k h d out;
      rises = λ i k a. omega (arith, v.rises i k a, w.rises i k a);
      reaches = λ i k gap a o.
          ⊎_elim
          (λ (s : P i k gap). omega (arith, v.reaches i k gap a s, w.rises i k a))
          (λ (s : Q i k gap). w.reaches i k gap a s)
          (r i k gap o);
      least = λ i k bound a h all.
          w.least i k bound a (v.least i k bound a h (λ gap o. all gap (p i k gap o))) (λ gap o. all gap (q i k gap o));
    }

pub reached_either :
    (n : ℕ) (P Q : ℕ → ℕ → ℕ → Type 0) (before mid after : List ℕ) → Reached n P before mid → Reached n Q mid after
    → Reached n (λ i k gap. P i k gap ⊎ Q i k gap) before after
reached_either n P Q before mid after v w =
    reached_then n P Q (λ i k gap. P i k gap ⊎ Q i k gap) before mid after v w (λ i k gap o. inl o) (λ i k gap o. inr o) (λ i k gap o. o)

-- The orders of places: one more place, above or below, and all.
module _ (n : ℕ) (Order : ℕ → ℕ → ℕ → ℕ → Type 0) (before mid after : List ℕ) where
  within_more :
      (low high low' high' q : ℕ) → low' ≤ low → high ≤ high' → low' ≤ q → q < high'
      → ((p : ℕ) → low' ≤ p → p < high' → (p ≡ q → ⊥) → (low ≤ p) × (p < high))
      → Reached n (Among low high Order) before mid
      → Reached n (Order q) mid after
      → Reached n (Among low' high' Order) before after
  within_more low high low' high' q a b c d others v w =
      reached_then n (Among low high Order) (Order q) (Among low' high' Order) before mid after v w
      (λ i k gap o. (o.0, omega (arith, o.1), omega (arith, o.2), o.3))
      (λ i k gap o. (q, c, d, o))
      (λ i k gap o.
      elim (ℕ_discrete o.0 q) [
        | yes e ↦ inr (subst (λ j. Order j i k gap) e o.3)
        | no e ↦ let r = others o.0 o.1 o.2 e in inl (o.0, r.0, r.1, o.3)
      ])

  pub within_up :
      (low p : ℕ) → low ≤ p → Reached n (Among low p Order) before mid → Reached n (Order p) mid after
      → Reached n (Among low (p + 1) Order) before after
  within_up low p h = within_more low p low (p + 1) p (omega arith) (omega arith) h (omega arith) (λ q a b d. (a, omega arith))

  pub within_down :
      (p q high : ℕ) → q + 1 ≡ p → p ≤ high → Reached n (Among p high Order) before mid → Reached n (Order q) mid after
      → Reached n (Among q high Order) before after
  within_down p q high e h = within_more p high q high q (omega arith) (omega arith) (omega arith) (omega arith) (λ r a b d. (omega arith, b))

pub within_all :
    (n : ℕ) (Order : ℕ → ℕ → ℕ → ℕ → Type 0) (before after : List ℕ) (low high low' high' : ℕ) → low ≡ low' → high ≡ high'
    → Reached n (Among low high Order) before after
    → Reached n (Among low' high' Order) before after
within_all n Order before after low high low' high' d e w =
    subst (λ p. Reached n (Among p high' Order) before after) d (subst (λ q. Reached n (Among low q Order) before after) e w)

pub within_empty :
    (n : ℕ) (Order : ℕ → ℕ → ℕ → ℕ → Type 0) (gaps : List ℕ) (low high : ℕ) → high ≤ low
    → Reached n (Among low high Order) gaps gaps
within_empty n Order gaps low high h =
    reached_none n (Among low high Order) gaps (λ i k gap o. absurd (omega (arith, o.1, o.2)))

-- a table raised by f is raised to the gaps of f, and to a single order
raised_reached :
    (n : ℕ) (f : ℕ → ℕ → ℕ) (before after : List ℕ) → n ≤ step_limit → Raised n f before after
    → Reached n (λ i k gap. gap ≡ f i k) before after
raised_reached n f before after m w =
    record {
      whole = w.whole;
      rest = λ i k h q d. w.rest i k h q (λ s t. d (s, t, q));
      rises = λ i k a. omega (arith, w.below i k a.0 a.1 a.2);
      reaches = λ i k gap a o. omega (arith, w.below i k a.0 a.1 a.2, o);
      least = λ i k bound a h all. omega (arith, w.below i k a.0 a.1 a.2, all (f i k) refl, h);
    }

pub reached_one :
    (n a b gap : ℕ) (before after : List ℕ) → n ≤ step_limit → a < n → b < n → Raised row_width (single a b gap) before after
    → Reached n (λ i k g. (a ≡ i) × (b ≡ k) × (g ≡ gap)) before after
reached_one n a b gap before after m h l w =
    reached_is n (λ i k g. g ≡ single a b gap i k) (λ i k g. (a ≡ i) × (b ≡ k) × (g ≡ gap)) before after
    (raised_reached n (single a b gap) before after m (raised_one n (single a b gap) a b gap before after m h l w (λ i k. refl)))
    (λ i k g apart e.
    elim (ℕ_discrete a i) [
      | yes p ↦
          elim (ℕ_discrete b k) [
            | yes q ↦ inr (p, q, e ∙ single_is a b gap i k p q)
            | no q ↦ inl (e ∙ single_off a b gap i k (λ _ t. q t))
          ]
      | no p ↦ inl (e ∙ single_off a b gap i k (λ s _. p s))
    ])
    (λ i k g apart o. (gap, omega (arith, o.2), sym (single_is a b gap i k o.0 o.1)))

-- a table raised to orders is raised by f, if none is larger than f says and f is no larger than one of them
pub reached_raised :
    (n : ℕ) (Order : ℕ → ℕ → ℕ → Type 0) (f : ℕ → ℕ → ℕ) (before after : List ℕ) → n ≤ step_limit → Reached n Order before after
    → ((i k gap : ℕ) → Apart n i k → Order i k gap → gap ≤ f i k)
    → ((i k bound : ℕ) → Apart n i k → ((gap : ℕ) → Order i k gap → gap ≤ bound) → f i k ≤ bound)
    → Raised n f before after
reached_raised n Order f before after m w under over =
    record {
      whole = w.whole;
      below = λ i k h l q.
          let a : Apart n i k = (h, l, q) in
          omega (
            arith,
            w.rises i k a,
            w.least i k (max (gap_in before i k) (f i k)) a (omega arith) (λ gap o. omega (arith, under i k gap a o)),
            over i k (gap_in after i k) a (λ gap o. w.reaches i k gap a o),
          );
      rest = λ i k h q d. w.rest i k h q (λ a. d a.0 a.1);
    }
