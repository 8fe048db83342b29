-- A schedule satisfies the file exactly if it obeys the orders and limits; the earliest starts obey, and no start that does lies below
-- them. A pair of steps i and k stands in the table at row_width * i + k, and every pair there with a gap is filed under its number.
use Prim.Native.Nat.{ℕ, ◌+◌, ◌*◌, ◌/◌, ◌%◌, ◌≤◌, ◌<◌}
use mathlib.Core.Path.{◌≡◌, ap, ap₂, ◌∙◌}
use mathlib.Core.Bool.{true, ◌&&◌, not}
use native.Mathlib.Decide.{ℕ_discrete}
use native.Mathlib.Omega.{arith}
use borrow.Author.Tests.{lt-ltb, eq-eqb, ne_eqb, ltb-true, eqb-false, not-true}
use Rattle.laws.specs.Nth.{count}
use Rattle.laws.proofs.Search.{and_both}
use Rattle.laws.proofs.Nth.{count_below, nth_facts, nth_is}
use Rattle.job.specs.Model.{Model}
use Rattle.job.specs.Clocked.{ClockedForm}
use Rattle.validity.specs.Valid.{Valid}
use Rattle.orders.specs.Satisfies.{Satisfies}
use Rattle.orders.specs.Gaps.{gap_of}
use Rattle.orders.specs.Windows.{limit_of}
use Rattle.orders.specs.Obeys.{Obeys}
use Rattle.rounds.specs.Rounds.{demand, Satisfied}
use Rattle.order_file.specs.Contents.{gap_bias}
use Rattle.orders.specs.File.{earliest_of, ordered, pair_of, file_with}
use Rattle.rounds.proofs.Rounds.{earliest_satisfied, earliest_least}
use Rattle.orders.proofs.Planned.{planned_obeys}
use Rattle.order_file.specs.Table.{row_width, table_size}

module _ (m : Model) (x : ℕ → ℕ) where
  ordered_in :
      (i k q : ℕ) → q / row_width ≡ i → q % row_width ≡ k → i < m.steps → k < m.steps → (gap_of m x i k ≡ 0 → ⊥)
      → ordered m x q ≡ true
  unfolding ordered
  ordered_in i k q a b h g n =
      rw (a, b) (ap₂ ◌&&◌ (ap₂ ◌&&◌ (lt-ltb _ _ h) (lt-ltb _ _ g)) (ap not (ne_eqb _ _ n)))

  -- what a pair that is ordered has
  pub ordered_out :
      (q : ℕ) → ordered m x q ≡ true → (q / row_width < m.steps) × (q % row_width < m.steps)
      × (gap_of m x (q / row_width) (q % row_width) ≡ 0 → ⊥)
  unfolding ordered
  ordered_out q e =
      let b = and_both _ _ e in
      let c = and_both _ _ b.0 in
      (ltb-true _ _ c.0, ltb-true _ _ c.1, eqb-false _ _ (not-true _ b.1))

  -- the pair of an order
  pub pair_ordered : (o : ℕ) → o < count table_size (ordered m x) → ordered m x (pair_of m x o) ≡ true
  pair_ordered o h = (nth_facts (ordered m x) table_size o h).1

  -- the place of a pair in the table gives back its steps
  place_first : (i k : ℕ) → k < row_width → (row_width * i + k) / row_width ≡ i
  place_first i k h = omega arith

  place_second : (i k : ℕ) → k < row_width → (row_width * i + k) % row_width ≡ k
  place_second i k h = omega arith

  -- every pair with a gap is filed
  pub pair_filed :
      ClockedForm m → (i k : ℕ) → i < m.steps → k < m.steps → (gap_of m x i k ≡ 0 → ⊥)
      → (o : ℕ) × (o < count table_size (ordered m x)) × (pair_of m x o / row_width ≡ i) × (pair_of m x o % row_width ≡ k)
  pair_filed w i k h g n =
      let q : ℕ = row_width * i + k in
      let b : k < row_width = omega (arith, w.step_count) in
      let t : ordered m x q ≡ true = ordered_in i k q (place_first i k b) (place_second i k b) h g n in
      let l : q < table_size = omega (arith, w.step_count) in
      let e : pair_of m x (count q (ordered m x)) ≡ q = nth_is (ordered m x) table_size q l t in (
        count q (ordered m x),
        count_below (ordered m x) table_size q l t,
        ap (λ p. p / row_width) e ∙ place_first i k b,
        ap (λ p. p % row_width) e ∙ place_second i k b,
      )

  -- whatever the links are numbered by
  module _ (w : ClockedForm m) (number : ℕ → ℕ) (y : ℕ → ℕ) where
    pub satisfies_obeys : Satisfies (file_with number m x) y → Obeys m x y
    unfolding file_with
    satisfies_obeys s =
        record {
          from_limit = s.from_limit;
          by_latest = s.by_latest;
          keeps = λ i k h g n.
              let f = pair_filed w i k h g n in
              let e = rw (f.2, f.3) at (s.keeps f.0 f.1) in
              omega arith;
        }

    pub obeys_satisfies : Obeys m x y → Satisfies (file_with number m x) y
    unfolding file_with
    obeys_satisfies o =
        record {
          from_limit = o.from_limit;
          by_latest = o.by_latest;
          keeps = λ n h.
              let q : ℕ = pair_of m x n in
              let p = ordered_out q (pair_ordered n h) in
              o.keeps (q / row_width) (q % row_width) p.0 p.1 p.2;
        }

-- an order that is kept demands no more than is given
demand_kept :
    (gap : ℕ → ℕ → ℕ) (i k : ℕ) (y : ℕ → ℕ) → ((gap i k ≡ 0 → ⊥) → y i + gap i k ≤ y k + gap_bias)
    → demand gap gap_bias i k (y i) ≤ y k
unfolding demand
demand_kept gap i k y h =
    elim (ℕ_discrete (gap i k) 0) [
      | yes z ↦ rw (eq-eqb _ _ z) (omega arith)
      | no z ↦ rw (ne_eqb _ _ z) (omega (arith, h z))
    ]

kept_demand :
    (gap : ℕ → ℕ → ℕ) (i k : ℕ) (y : ℕ → ℕ) → demand gap gap_bias i k (y i) ≤ y k → (gap i k ≡ 0 → ⊥)
    → y i + gap i k ≤ y k + gap_bias
unfolding demand
kept_demand gap i k y h z = let g = rw (ne_eqb _ _ z) at h in omega arith

pub obeys_satisfied : (m : Model) (x y : ℕ → ℕ) → Obeys m x y → Satisfied m.steps (gap_of m x) gap_bias (limit_of m x) y
obeys_satisfied m x y o =
    record { above = o.from_limit; keeps = λ i k h g. demand_kept (gap_of m x) i k y (o.keeps i k h g) }

module _ (m : Model) (x : ℕ → ℕ) (w : ClockedForm m) (v : Valid m x) (zero : x m.steps ≡ 0) where
  pub planned_satisfies_lem : (number : ℕ → ℕ) → Satisfies (file_with number m x) x
  planned_satisfies_lem number = obeys_satisfies m x w number x (planned_obeys m x w v zero)

  -- the earliest starts are at most those of every schedule that obeys, the planned one among them
  pub earliest_first : (y : ℕ → ℕ) → Obeys m x y → (k : ℕ) → k < m.steps → earliest_of m x k ≤ y k
  earliest_first y o = earliest_least m.steps (gap_of m x) gap_bias (limit_of m x) y (obeys_satisfied m x y o)

  pub earliest_planned : (k : ℕ) → k < m.steps → earliest_of m x k ≤ x k
  earliest_planned = earliest_first x (planned_obeys m x w v zero)

  earliest_obeys : Obeys m x (earliest_of m x)
  earliest_obeys =
      let s : Satisfied m.steps (gap_of m x) gap_bias (limit_of m x) (earliest_of m x) =
      earliest_satisfied m.steps (gap_of m x) gap_bias (limit_of m x) x (obeys_satisfied m x x (planned_obeys m x w v zero))
      in
      record {
        from_limit = s.above;
        by_latest = λ k h n. omega (arith, earliest_planned k h, (planned_obeys m x w v zero).by_latest k h n);
        keeps = λ i k h g n. kept_demand (gap_of m x) i k (earliest_of m x) (s.keeps i k h g) n;
      }

  pub earliest_satisfies : (number : ℕ → ℕ) → Satisfies (file_with number m x) (earliest_of m x)
  earliest_satisfies number = obeys_satisfies m x w number (earliest_of m x) earliest_obeys
