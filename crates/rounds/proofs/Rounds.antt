-- Rounds raise the limits to the least starts that satisfy them and every order, in at most as many rounds as steps.
use Prim.Native.Nat.{ℕ, zero, suc, ◌+◌, ◌*◌, ◌-◌, ◌≤◌, ◌<◌, max}
use mathlib.Core.Path.{◌≡◌, sym, ap, ap₂, ◌∙◌}
use mathlib.Core.Bool.{Bool, true, false, cond}
use mathlib.Core.Logic.{⊎_elim}
use native.Mathlib.Nat.{not-suc-le-zero, mul-suc}
use native.Mathlib.Decide.{dec_lt}
use native.Mathlib.Numerals.{add-one}
use native.Mathlib.Omega.{arith}
use borrow.Author.Tests.{eqb-true, eq-eqb}
use lib.Dec.{eqb}
use Rattle.laws.specs.Search.{lowest}
use Rattle.laws.specs.Fold.{largest, sum}
use Rattle.laws.proofs.Search.{last_or_below, all_intro, all_elim, lowest_facts}
use Rattle.laws.proofs.Fold.{largest_ge, largest_le, largest_at, largest_cong, sum_le}
use Rattle.rounds.specs.Rounds.{demand, raised, after, unchanged, rounds, earliest, Satisfied}

-- A demand rises with the start of the order's first step, and by as much, once it is above 0.

later : (b : Bool) (g bias t u : ℕ) → t ≤ u → 0 < cond b 0 (t + g - bias) → cond b 0 (u + g - bias) ≡ cond b 0 (t + g - bias) + (u - t)
later true g bias t u h p = absurd (not-suc-le-zero p)
later false g bias t u h p = omega arith

module _ (gap : ℕ → ℕ → ℕ) (bias i k t u : ℕ) where
  demand_later : t ≤ u → 0 < demand gap bias i k t → demand gap bias i k u ≡ demand gap bias i k t + (u - t)
  unfolding demand
  demand_later h p = later (eqb (gap i k) 0) (gap i k) bias t u h p

  demand_rises : t ≤ u → demand gap bias i k t ≤ demand gap bias i k u
  demand_rises h = elim (dec_lt 0 (demand gap bias i k t)) [ yes p ↦ omega (arith, demand_later h p) | no p ↦ omega arith ]

-- a gap of at most so much demands at most so much more
at_most : (b : Bool) (g bias most t : ℕ) → g ≤ bias + most → cond b 0 (t + g - bias) ≤ t + most
at_most true g bias most t h = omega arith
at_most false g bias most t h = omega arith

pub demand_most : (gap : ℕ → ℕ → ℕ) (bias most i k t : ℕ) → gap i k ≤ bias + most → demand gap bias i k t ≤ t + most
unfolding demand
demand_most gap bias most i k t h = at_most (eqb (gap i k) 0) (gap i k) bias most t h

-- A round keeps each start or raises it, to no more than a bound of the start and of every demand on it.

module _ (n : ℕ) (gap : ℕ → ℕ → ℕ) (bias : ℕ) (x : ℕ → ℕ) (k : ℕ) where
  pub raised_zero : raised 0 gap bias x k ≡ x k
  unfolding raised largest
  raised_zero = omega arith

  pub raised_more : raised (n + 1) gap bias x k ≡ max (raised n gap bias x k) (demand gap bias n k (x n))
  unfolding raised largest
  raised_more = rw add-one (omega arith)

  pub raised_ge : x k ≤ raised n gap bias x k
  unfolding raised
  raised_ge = omega arith

  pub raised_demand : (i : ℕ) → i < n → demand gap bias i k (x i) ≤ raised n gap bias x k
  unfolding raised
  raised_demand i h = omega (arith, largest_ge (λ j. demand gap bias j k (x j)) n i h)

  pub raised_le : (b : ℕ) → x k ≤ b → ((i : ℕ) → i < n → demand gap bias i k (x i) ≤ b) → raised n gap bias x k ≤ b
  unfolding raised
  raised_le b h g = omega (arith, largest_le (λ j. demand gap bias j k (x j)) n b g)

  -- a start that is raised is raised by some order
  raised_by : x k < raised n gap bias x k → (i : ℕ) × (i < n) × (demand gap bias i k (x i) ≡ raised n gap bias x k)
  unfolding raised
  raised_by h =
      ⊎_elim
      (λ (z : largest n (λ j. demand gap bias j k (x j)) ≡ 0). absurd (omega arith))
      (λ (w : (i : ℕ) × (i < n) × (demand gap bias i k (x i) ≡ largest n (λ j. demand gap bias j k (x j)))).
      (w.0, w.1, omega (arith, w.2)))
      (largest_at (λ j. demand gap bias j k (x j)) n)

-- starts that agree below n agree after a round
pub raised_cong :
    (n : ℕ) (gap : ℕ → ℕ → ℕ) (bias : ℕ) (x y : ℕ → ℕ) → ((i : ℕ) → i < n → x i ≡ y i) → (k : ℕ) → k < n → raised n gap bias x k ≡ raised n gap bias y k
unfolding raised
raised_cong n gap bias x y h k l =
    ap₂ max (h k l)
    (largest_cong (λ i. demand gap bias i k (x i)) (λ i. demand gap bias i k (y i)) n (λ i m. ap (demand gap bias i k) (h i m)))

-- The starts after more rounds are no lower, and never above starts that satisfy the limits and the orders.

module _ (n : ℕ) (gap : ℕ → ℕ → ℕ) (bias : ℕ) (x : ℕ → ℕ) where
  after_next : (r k : ℕ) → after n gap bias x r k ≤ after n gap bias x (suc r) k
  unfolding after
  after_next r k = raised_ge n gap bias (after n gap bias x r) k

  pub after_above : (r k : ℕ) → x k ≤ after n gap bias x r k
  unfolding after
  after_above zero k = omega arith
  after_above (suc r) k = omega (arith, after_above r k, after_next r k)

  -- no round raises by more than the largest gap
  pub after_most :
      (limit most : ℕ) → ((k : ℕ) → k < n → x k ≤ limit) → ((i k : ℕ) → i < n → gap i k ≤ bias + most) → (r k : ℕ) → k < n
      → after n gap bias x r k ≤ limit + most * r
  unfolding after
  after_most limit most h g zero k l = omega (arith, h k l)
  after_most limit most h g (suc r) k l =
      let e : most * suc r ≡ most * r + most = mul-suc most r in
      raised_le n gap bias (after n gap bias x r) k (limit + most * suc r) (omega (arith, after_most limit most h g r k l))
      (λ i m.
      omega (arith, demand_most gap bias most i k (after n gap bias x r i) (g i k m), after_most limit most h g r i m))

  -- what a round that changes nothing leaves as it was
  pub unchanged_same : (r : ℕ) → unchanged n gap bias (after n gap bias x r) ≡ true → (k : ℕ) → k < n → after n gap bias x (suc r) k ≡ after n gap bias x r k
  unfolding unchanged after
  unchanged_same r e k h = eqb-true _ _ (all_elim (λ j. eqb (raised n gap bias (after n gap bias x r) j) (after n gap bias x r j)) n e k h)

  module _ (s : ℕ → ℕ) (sat : Satisfied n gap bias x s) where
    after_below : (r k : ℕ) → k < n → after n gap bias x r k ≤ s k
    unfolding after
    after_below zero k h = sat.above k h
    after_below (suc r) k h =
        raised_le n gap bias (after n gap bias x r) k (s k) (after_below r k h)
        (λ i l. omega (arith, demand_rises gap bias i k (after n gap bias x r i) (s i) (after_below r i l), sat.keeps i k l h))

-- Some round up to the nth changes nothing. Let s satisfy the limits and the orders, and call s minus the starts after a
-- round the slack. A step k that round r + 1 raises is raised by an order from some i, and then has at least the slack
-- that i had before that round; and i was itself raised by round r, for else round r had raised k as high. Count the steps
-- with at most the slack of a step just raised. By round r + 1 the count grows: slack only falls, all that i had counted
-- stay, and k, which had more slack than i, joins. So a step raised by round r has r + 1 steps in its count, and r + 1 ≤ n.

sum_lt : (f g : ℕ → ℕ) (n k : ℕ) → k < n → ((j : ℕ) → j < n → f j ≤ g j) → f k < g k → sum n f < sum n g
unfolding sum
sum_lt f g zero k h le lt = absurd (not-suc-le-zero h)
sum_lt f g (suc n) k h le lt =
    ⊎_elim
    (λ (q : k ≡ n). omega (arith, sum_le f g n (λ j l. le j (omega arith)), ap f q, ap g q))
    (λ (l : k < n). omega (arith, sum_lt f g n k l (λ j m. le j (omega arith)) lt, le n (omega arith)))
    (last_or_below h)

sum_ones : (f : ℕ → ℕ) (n : ℕ) → ((j : ℕ) → j < n → f j ≤ 1) → sum n f ≤ n
unfolding sum
sum_ones f zero h = omega arith
sum_ones f (suc n) h = omega (arith, sum_ones f n (λ j l. h j (omega arith)), h n (omega arith))

-- how many steps have at most a given slack
abbrev within : ℕ → (ℕ → ℕ) → (ℕ → ℕ) → ℕ → ℕ
within n s y v = sum n (λ j. 1 - (s j - (y j + v)))

counted_still : (t a b v w : ℕ) → a ≤ b → v ≤ w → 1 - (t - (a + v)) ≤ 1 - (t - (b + w))
counted_still t a b v w h g = omega arith

module _ (n : ℕ) (s y : ℕ → ℕ) where
  within_le : (v : ℕ) → within n s y v ≤ n
  within_le v = sum_ones (λ j. 1 - (s j - (y j + v))) n (λ j l. omega arith)

  within_self : (k : ℕ) → k < n → 1 ≤ within n s y (s k - y k)
  within_self k h = omega (arith, sum_lt (λ j. 0) (λ j. 1 - (s j - (y j + (s k - y k)))) n k h (λ j l. omega arith) (omega arith))

  within_grows :
      (z : ℕ → ℕ) (v w k : ℕ) → k < n → ((j : ℕ) → y j ≤ z j) → v ≤ w → y k + v < s k → s k ≤ z k + w → within n s y v < within n s z w
  within_grows z v w k h up le more joins =
      sum_lt (λ j. 1 - (s j - (y j + v))) (λ j. 1 - (s j - (z j + w))) n k h (λ j l. counted_still (s j) (y j) (z j) v w (up j) le) (omega arith)

module _ (n : ℕ) (gap : ℕ → ℕ → ℕ) (bias : ℕ) (x s : ℕ → ℕ) (sat : Satisfied n gap bias x s) where
  -- the step whose order raises another was raised by the round before
  was_raised :
      (r i k : ℕ) → i < n → after n gap bias x (suc r) k < demand gap bias i k (after n gap bias x (suc r) i)
      → after n gap bias x r i < after n gap bias x (suc r) i
  unfolding after
  was_raised r i k l up =
      elim (dec_lt (after n gap bias x r i) (after n gap bias x (suc r) i)) [
        | yes m ↦ m
        | no m ↦
            let e : after n gap bias x (suc r) i ≡ after n gap bias x r i = omega (arith, after_next n gap bias x r i) in
            absurd (omega (arith, ap (demand gap bias i k) e, raised_demand n gap bias (after n gap bias x r) k i l))
      ]

  -- one round more: the step i whose order raises k has its count, so k has one more
  counts_more :
      (r k : ℕ) → k < n → after n gap bias x r k < after n gap bias x (suc r) k
      → ((i : ℕ) → i < n → after n gap bias x r k < demand gap bias i k (after n gap bias x r i) → suc r ≤ within n s (after n gap bias x r)
      (s i - after n gap bias x r i))
      → suc (suc r) ≤ within n s (after n gap bias x (suc r)) (s k - after n gap bias x (suc r) k)
  unfolding after
  counts_more r k h up count =
      let y : ℕ → ℕ = after n gap bias x r in
      let w = raised_by n gap bias y k up in
      let i : ℕ = w.0 in
      let e : demand gap bias i k (y i) ≡ raised n gap bias y k = w.2 in
      let d : demand gap bias i k (s i) ≡ demand gap bias i k (y i) + (s i - y i) =
      demand_later gap bias i k (y i) (s i) (after_below n gap bias x s sat r i w.1) (omega arith)
      in
      let b : demand gap bias i k (s i) ≤ s k = sat.keeps i k w.1 h in
      let c : suc r ≤ within n s y (s i - y i) = count i w.1 (omega arith) in
      omega (
        arith,
        within_grows n s y (raised n gap bias y) (s i - y i) (s k - raised n gap bias y k) k h (after_next n gap bias x r) (omega arith)
            (omega arith) (omega arith),
      )

  -- a step raised by round r + 1 has r + 2 steps in its count
  counts :
      (r k : ℕ) → k < n → after n gap bias x r k < after n gap bias x (suc r) k
      → suc (suc r) ≤ within n s (after n gap bias x (suc r)) (s k - after n gap bias x (suc r) k)
  counts zero k h up = counts_more zero k h up (λ i l _. within_self n s (after n gap bias x zero) i l)
  counts (suc r) k h up = counts_more (suc r) k h up (λ i l d. counts r i l (was_raised r i k l d))

  pub settles : (r : ℕ) → n ≤ suc r → unchanged n gap bias (after n gap bias x r) ≡ true
  unfolding unchanged after
  settles r g =
      all_intro (λ j. eqb (raised n gap bias (after n gap bias x r) j) (after n gap bias x r j)) n
      (λ k h.
      elim (dec_lt (after n gap bias x r k) (after n gap bias x (suc r) k)) [
        | yes up ↦ absurd (omega (arith, counts r k h up, within_le n s (after n gap bias x (suc r)) (s k - after n gap bias x (suc r) k)))
        | no m ↦ eq-eqb (after n gap bias x (suc r) k) (after n gap bias x r k) (omega (arith, after_next n gap bias x r k))
      ])

-- The count. Unless there is no step, the last round is the first that changes nothing.

module _ (n : ℕ) (gap : ℕ → ℕ → ℕ) (bias : ℕ) (x : ℕ → ℕ) where
  pub rounds_le : rounds n gap bias x ≤ n
  unfolding rounds
  rounds_le = omega arith

  pub rounds_some : 0 < n → 0 < rounds n gap bias x
  unfolding rounds
  rounds_some h = omega arith

  -- every round before the last changes some start
  pub earlier_changes_lem : (r : ℕ) → suc r < rounds n gap bias x → unchanged n gap bias (after n gap bias x r) ≡ false
  unfolding rounds
  earlier_changes_lem r h = (lowest_facts (λ q. unchanged n gap bias (after n gap bias x q)) n).1 r (omega arith)

  module _ (s : ℕ → ℕ) (sat : Satisfied n gap bias x s) where
    -- the last round changes nothing
    pub last_unchanged_lem : (r : ℕ) → suc r ≡ rounds n gap bias x → unchanged n gap bias (after n gap bias x r) ≡ true
    unfolding rounds
    last_unchanged_lem r e =
        let p : ℕ → Bool = λ q. unchanged n gap bias (after n gap bias x q) in
        elim (dec_lt (suc r) n) [
          | yes h ↦
              let q : r ≡ lowest n p = omega arith in
              ap p q ∙ (lowest_facts p n).2 (omega arith)
          | no h ↦ settles n gap bias x s sat r (omega arith)
        ]

    earliest_before : (r : ℕ) → suc r ≡ rounds n gap bias x → (k : ℕ) → k < n → earliest n gap bias x k ≡ after n gap bias x r k
    unfolding earliest
    earliest_before r e k h = ap (λ q. after n gap bias x q k) (sym e) ∙ unchanged_same n gap bias x r (last_unchanged_lem r e) k h

    -- The earliest starts. The last round left them as they were, so they keep every order; and no starts that do lie below them.

    pub earliest_satisfied : Satisfied n gap bias x (earliest n gap bias x)
    unfolding earliest after
    earliest_satisfied =
        record {
          above = λ k h. after_above n gap bias x (rounds n gap bias x) k;
          keeps = λ i k l h.
              let q : ℕ = rounds n gap bias x - 1 in
              let e : suc q ≡ rounds n gap bias x = omega (arith, rounds_some (omega arith)) in
              let f : after n gap bias x (rounds n gap bias x) i ≡ after n gap bias x q i = earliest_before q e i l in
              omega (
                arith,
                ap (demand gap bias i k) f,
                raised_demand n gap bias (after n gap bias x q) k i l,
                ap (λ r. after n gap bias x r k) e,
              );
        }

  pub earliest_least : (t : ℕ → ℕ) → Satisfied n gap bias x t → (k : ℕ) → k < n → earliest n gap bias x k ≤ t k
  unfolding earliest
  earliest_least t sat k h = after_below n gap bias x t sat (rounds n gap bias x) k h
