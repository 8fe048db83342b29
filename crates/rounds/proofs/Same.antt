-- Rounds and earliest starts depend only on the gaps and starts of the steps that are counted.
use Prim.Native.Nat.{ℕ, zero, suc, ◌+◌, ◌-◌, ◌<◌, max, min}
use mathlib.Core.Path.{◌≡◌, ap, ap₂, ◌∙◌}
use mathlib.Core.Bool.{cond}
use lib.Dec.{eqb}
use Rattle.laws.proofs.Search.{all_cong, lowest_cong}
use Rattle.laws.proofs.Fold.{largest_cong}
use Rattle.rounds.specs.Rounds.{demand, raised, after, unchanged, rounds, earliest}

module _ (n : ℕ) (gap gap' : ℕ → ℕ → ℕ) (bias : ℕ) (x x' : ℕ → ℕ)
    (gaps : (i k : ℕ) → i < n → k < n → gap i k ≡ gap' i k) (starts : (k : ℕ) → k < n → x k ≡ x' k) where
  raised_same : (y y' : ℕ → ℕ) → ((k : ℕ) → k < n → y k ≡ y' k) → (k : ℕ) → k < n → raised n gap bias y k ≡ raised n gap' bias y' k
  unfolding raised demand
  raised_same y y' h k l =
      ap₂ max (h k l)
      (largest_cong (λ i. demand gap bias i k (y i)) (λ i. demand gap' bias i k (y' i)) n
      (λ i g. ap₂ (λ (a t : ℕ). cond (eqb a 0) 0 (t + a - bias)) (gaps i k g l) (h i g)))

  after_same : (r k : ℕ) → k < n → after n gap bias x r k ≡ after n gap' bias x' r k
  unfolding after
  after_same zero k l = starts k l
  after_same (suc r) k l = raised_same (after n gap bias x r) (after n gap' bias x' r) (after_same r) k l

  pub unchanged_same : (r : ℕ) → unchanged n gap bias (after n gap bias x r) ≡ unchanged n gap' bias (after n gap' bias x' r)
  unfolding unchanged
  unchanged_same r =
      all_cong _ _ n
      (λ k l. ap₂ eqb (raised_same (after n gap bias x r) (after n gap' bias x' r) (after_same r) k l) (after_same r k l))

  pub rounds_same : rounds n gap bias x ≡ rounds n gap' bias x'
  unfolding rounds
  rounds_same = ap (λ (k : ℕ). min n (k + 1)) (lowest_cong _ _ n (λ r _. unchanged_same r))

  pub earliest_same : (k : ℕ) → k < n → earliest n gap bias x k ≡ earliest n gap' bias x' k
  unfolding earliest
  earliest_same k l =
      after_same (rounds n gap bias x) k l ∙ ap (λ (r : ℕ). after n gap' bias x' r k) rounds_same
