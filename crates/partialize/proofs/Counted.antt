-- The counted rounds by the file itself: its orders have the gaps of the rules, so rounds over them are the rounds that were counted.
use Prim.Native.Nat.{ℕ, suc, ◌/◌, ◌%◌, ◌≤◌, ◌<◌}
use mathlib.Core.Path.{◌≡◌, ap, ◌∙◌}
use mathlib.Core.Bool.{true, false, ◌&&◌}
use native.Mathlib.Decide.{ℕ_discrete}
use native.Mathlib.Omega.{arith}
use lib.Dec.{eqb}
use Rattle.order_file.specs.Table.{row_width, table_size}
use Rattle.laws.specs.Fold.{largest}
use Rattle.laws.specs.Nth.{count}
use Rattle.laws.proofs.Fold.{largest_ge, largest_le, largest_cong}
use Rattle.job.specs.Model.{Model}
use Rattle.job.specs.Clocked.{ClockedForm}
use Rattle.validity.specs.Valid.{Valid}
use Rattle.order_file.specs.Contents.{Contents}
use Rattle.order_file.specs.Agree.{Agree}
use Rattle.orders.specs.Gaps.{gap_of}
use Rattle.orders.specs.Windows.{limit_of}
use Rattle.rounds.specs.Rounds.{after, unchanged}
use Rattle.order_file.specs.Contents.{gap_bias}
use Rattle.origins.specs.Raised.{single}
use Rattle.orders.specs.File.{rounds_of, ordered, pair_of, file_with}
use Rattle.partialize.specs.Demands.{filed_gap, settled_after}
use Rattle.rounds.proofs.Rounds.{rounds_some, last_unchanged_lem, earlier_changes_lem}
use Rattle.rounds.proofs.Same.{unchanged_same}
use Rattle.origins.proofs.Raised.{single_at, single_off}
use Rattle.orders.proofs.Near.{counted_le}
use Rattle.orders.proofs.Planned.{planned_obeys}
use Rattle.orders.proofs.Satisfied.{pair_filed, obeys_satisfied}

-- one order's gap, between two steps, is at most theirs
single_le : (gap : ℕ → ℕ → ℕ) (a b i k : ℕ) → single i k (gap i k) a b ≤ gap a b
single_le gap a b i k =
    elim (ℕ_discrete i a) [
      | yes p ↦
          elim (ℕ_discrete k b) [
            | yes q ↦ rw (p, q) (counted_le (eqb a a && eqb b b) (gap a b))
            | no q ↦ omega (arith, single_off i k (gap i k) a b (λ _ t. q t))
          ]
      | no p ↦ omega (arith, single_off i k (gap i k) a b (λ s _. p s))
    ]

module _ (number : ℕ → ℕ) (m : Model) (x : ℕ → ℕ) (w : ClockedForm m) where
  -- the largest gap filed between two steps is the rules' gap
  gap_filed : (i k : ℕ) → i < m.steps → k < m.steps → filed_gap (file_with number m x) i k ≡ gap_of m x i k
  unfolding filed_gap file_with
  gap_filed i k h g =
      let f : ℕ → ℕ = λ o. single (pair_of m x o / row_width) (pair_of m x o % row_width)
      (gap_of m x (pair_of m x o / row_width) (pair_of m x o % row_width)) i k in
      let n : ℕ = count table_size (ordered m x) in
      let most : largest n f ≤ gap_of m x i k =
      largest_le f n (gap_of m x i k) (λ o _. single_le (gap_of m x) i k (pair_of m x o / row_width) (pair_of m x o % row_width))
      in
      elim (ℕ_discrete (gap_of m x i k) 0) [
        | yes z ↦ omega arith
        | no z ↦
            let p = pair_filed m x w i k h g z in
            let e : f p.0 ≡ gap_of m x i k = rw (p.2, p.3) (single_at i k (gap_of m x i k)) in
            omega (arith, largest_ge f n p.0 p.1)
      ]

gap_agrees : (c d : Contents) → Agree c d → (i k : ℕ) → filed_gap c i k ≡ filed_gap d i k
unfolding filed_gap
gap_agrees c d a i k =
    ap (λ n. largest n (λ o. single (c.first o) (c.second o) (c.gap o) i k)) a.orders
    ∙ largest_cong (λ o. single (c.first o) (c.second o) (c.gap o) i k) (λ o. single (d.first o) (d.second o) (d.gap o) i k) d.orders
    (λ o h. cc (a.first o h, a.second o h, a.gap o h))

-- contents that agree with what is filed of a valid schedule
module _ (number : ℕ → ℕ) (m : Model) (x : ℕ → ℕ) (w : ClockedForm m) (v : Valid m x) (zero : x m.steps ≡ 0)
    (c : Contents) (a : Agree c (file_with number m x)) where
  -- have its gaps
  pub filed_gap_lem : (i k : ℕ) → i < m.steps → k < m.steps → filed_gap c i k ≡ gap_of m x i k
  filed_gap_lem i k h g = gap_agrees c (file_with number m x) a i k ∙ gap_filed number m x w i k h g

  settled : (r : ℕ) → settled_after c r ≡ unchanged m.steps (gap_of m x) gap_bias (after m.steps (gap_of m x) gap_bias (limit_of m x) r)
  unfolding settled_after file_with
  settled r =
      ap (λ n. unchanged n (filed_gap c) gap_bias (after n (filed_gap c) gap_bias c.limit r)) a.steps
      ∙ unchanged_same m.steps (filed_gap c) (gap_of m x) gap_bias c.limit (limit_of m x) filed_gap_lem a.limit r

  counted : c.rounds ≡ rounds_of m x
  unfolding file_with
  counted = a.rounds

  pub some_counted : 0 < m.steps → 0 < c.rounds
  some_counted h = omega (arith, counted, rounds_some m.steps (gap_of m x) gap_bias (limit_of m x) h)

  pub last_counted : (r : ℕ) → suc r ≡ c.rounds → settled_after c r ≡ true
  last_counted r e =
      settled r
      ∙ last_unchanged_lem m.steps (gap_of m x) gap_bias (limit_of m x) x (obeys_satisfied m x x (planned_obeys m x w v zero)) r (e ∙ counted)

  pub earlier_counted : (r : ℕ) → suc r < c.rounds → settled_after c r ≡ false
  earlier_counted r h = settled r ∙ earlier_changes_lem m.steps (gap_of m x) gap_bias (limit_of m x) r (omega (arith, counted))
