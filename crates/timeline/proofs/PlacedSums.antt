-- A sum over the records before a tick is the sum over their places: each record has one place.
use Prim.Native.Nat.{ℕ, zero, suc, ◌+◌, ◌≤◌, ◌<◌}
use mathlib.Core.Path.{◌≡◌, refl, sym, ap, ◌∙◌}
use mathlib.Core.Bool.{Bool, true, false, ◌&&◌, cond, and-false}
use mathlib.Core.List.{List}
use mathlib.Core.Logic.{⊎_elim}
use native.Mathlib.Decide.{dec_lt, ℕ_discrete}
use native.Mathlib.Omega.{arith}
use borrow.Author.Tests.{eq-eqb, ne_eqb, le-leb, lt-leb}
use lib.Dec.{eqb, leb}
use Rattle.laws.specs.Fold.{sum}
use Rattle.laws.proofs.Search.{either, contrary, by_order}
use Rattle.laws.proofs.Fold.{sum_zero, sum_cong}
use Rattle.timeline.specs.Words.{number_at, tick_at}
use Rattle.timeline.specs.Placed.{Placed, Parted}

-- sums of sums: of two functions, in either order, and where all but one are 0
sum_add : (f g : ℕ → ℕ) (n : ℕ) → sum n (λ k. f k + g k) ≡ sum n f + sum n g
unfolding sum
sum_add f g zero = refl
sum_add f g (suc n) = omega (arith, sum_add f g n)

sum_swap : (h : ℕ → ℕ → ℕ) (r n : ℕ) → sum r (λ q. sum n (h q)) ≡ sum n (λ k. sum r (λ q. h q k))
unfolding sum
sum_swap h zero n = sym (sum_zero (λ k. 0) n (λ k l. refl))
sum_swap h (suc r) n = ap (λ s. s + sum n (h r)) (sum_swap h r n) ∙ sym (sum_add (λ k. sum r (λ q. h q k)) (h r) n)

sum_one : (f : ℕ → ℕ) (n k : ℕ) → k < n → ((j : ℕ) → j < n → (j ≡ k → ⊥) → f j ≡ 0) → sum n f ≡ f k
unfolding sum
sum_one f zero k h none = absurd (omega arith)
sum_one f (suc n) k h none =
    elim (ℕ_discrete k n) [
      | yes e ↦
          let rest : sum n f ≡ 0 = sum_zero f n (λ j l. none j (omega arith) (λ s. omega arith)) in
          let last : f n ≡ f k = ap f (sym e) in
          omega arith
      | no e ↦
          let rest : sum n f ≡ f k = sum_one f n k (omega arith) (λ j l d. none j (omega arith) d) in
          let last : f n ≡ 0 = none n (omega arith) (λ s. e (sym s)) in
          omega arith
    ]

module _ {P : ℕ → Type 0} {tick value step : ℕ → ℕ} {points : List ℕ} {low high : ℕ} (known : Placed P tick value step points low high)
    (t r : ℕ) (parts : Parted points low high t r) (n : ℕ) (g : ℕ → ℕ) (test : ℕ → Bool)
    (below : (k : ℕ) → P k → k < n)
    (own : (k : ℕ) → P k → tick k < t → test k ≡ true)
    (only : (k : ℕ) → k < n → test k ≡ true → P k × (tick k < t)) where
  -- what record k adds at place q: g k where it stands there
  there : ℕ → ℕ → ℕ
  there q k = cond (leb low q && eqb (number_at points q) k) (g k) 0

  -- what is added at place q
  placed : ℕ → ℕ
  placed q = cond (leb low q) (g (number_at points q)) 0

  there_not : (q k : ℕ) → (low ≤ q → number_at points q ≡ k → ⊥) → there q k ≡ 0
  unfolding there
  there_not q k never =
      elim (dec_lt q low) [
        | yes l ↦ rw (lt-leb low q l) refl
        | no l ↦ rw (ne_eqb (number_at points q) k (never (omega arith)), and-false (leb low q)) refl
      ]

  there_is : (q k : ℕ) → low ≤ q → number_at points q ≡ k → there q k ≡ g k
  unfolding there
  there_is q k l e = rw (le-leb low q l, eq-eqb (number_at points q) k e) refl

  -- at a place stands one record
  by_place : (q : ℕ) → q < r → sum n (there q) ≡ placed q
  unfolding placed
  by_place q l =
      let ends : r ≤ high = parts.to in
      elim (dec_lt q low) [
        | yes m ↦
            sum_zero (there q) n (λ k o. there_not q k (λ u e. absurd (omega arith)))
            ∙ sym (ap (λ c. cond c (g (number_at points q)) 0) (lt-leb low q m))
        | no m ↦
            sum_one (there q) n (number_at points q) (below (number_at points q) (known.holds q (omega arith) (omega arith)))
            (λ j o d. there_not q j (λ u e. d (sym e)))
            ∙ there_is q (number_at points q) (omega arith) refl
            ∙ sym (ap (λ c. cond c (g (number_at points q)) 0) (le-leb low q (omega arith)))
      ]

  one_place : (p q : ℕ) → low ≤ p → p < q → q < high → number_at points p ≡ number_at points q → ⊥
  one_place p q l m u e =
      let same : tick_at points p ≡ tick_at points q = known.ticks p l (omega arith) ∙ ap tick e ∙ sym (known.ticks q (omega arith) u) in
      let up : number_at points p < number_at points q = known.ordered p q l m u same in
      omega arith

  -- a record that counts stands at one place, any other at none
  by_record : (k : ℕ) → k < n → sum r (λ q. there q k) ≡ cond (test k) (g k) 0
  by_record k l =
      let ends : r ≤ high = parts.to in
      ⊎_elim
      (λ (counts : test k ≡ true).
      let place = known.found k (only k l counts).0 in
      let at : ℕ = place.0 in
      let last : at < high = place.2 in
      let here : number_at points at ≡ k = place.3 in
      let early : tick k < t = (only k l counts).1 in
      let same : tick_at points at ≡ tick k = known.ticks at place.1 last ∙ ap tick here in
      let before : at < r =
      elim (dec_lt at r) [
        | yes o ↦ o
        | no o ↦ let late : t ≤ tick_at points at = parts.after at (omega arith) last in absurd (omega arith)
      ] in
      sum_one (λ q. there q k) r at before
      (λ j o d.
      there_not j k
      (λ u e.
      by_order j at
      (λ m. one_place j at u m last (e ∙ sym here))
      (λ m. one_place at j place.1 m (omega arith) (here ∙ sym e))
      d))
      ∙ there_is at k place.1 here
      ∙ sym (ap (λ c. cond c (g k) 0) counts))
      (λ (counts : test k ≡ false).
      sum_zero (λ q. there q k) r
      (λ q o.
      there_not q k
      (λ u e.
      let early : tick_at points q < t = parts.before q u o in
      let same : tick_at points q ≡ tick (number_at points q) = known.ticks q u (omega arith) in
      contrary (ap test (sym e) ∙ own (number_at points q) (known.holds q u (omega arith)) (omega arith)) counts))
      ∙ sym (ap (λ c. cond c (g k) 0) counts))
      (either (test k))

  pub sum_placed : sum r (λ q. cond (leb low q) (g (number_at points q)) 0) ≡ sum n (λ k. cond (test k) (g k) 0)
  unfolding placed
  sum_placed =
      sym (sum_cong (λ q. sum n (there q)) placed r by_place)
      ∙ sum_swap there r n
      ∙ sum_cong (λ k. sum r (λ q. there q k)) (λ k. cond (test k) (g k) 0) n by_record
