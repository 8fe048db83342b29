-- What the loops over starts keep: filled so far, raised by the rows so far, reached so far.
use Prim.Native.Nat.{ℕ, ◌+◌, ◌*◌, ◌-◌, ◌≤◌, ◌<◌, max}
use mathlib.Core.Path.{◌≡◌, refl, sym, ap, ap₂, subst, ◌∙◌}
use mathlib.Core.Bool.{Bool, true, false}
use mathlib.Core.List.{List}
use native.Mathlib.Numerals.{add-one}
use native.Mathlib.Decide.{dec_lt}
use native.Mathlib.Omega.{arith}
use borrow.Author.Tests.{eq-eqb, ne_eqb}
use lib.ListN.{get_or, replicate, get_or-replicate}
use lib.Dec.{eqb}
use Rattle.laws.specs.Search.{all, lowest}
use Rattle.laws.proofs.Search.{all_cong, lowest_start, lowest_more, lowest_found, lowest_end}
use Rattle.limits.specs.Timed.{most_limit}
use Rattle.order_file.specs.Contents.{no_latest, gap_bias, most_gap}
use Rattle.order_file.specs.Table.{row_width, entry_bias, table_bias, gap_in, start_in, Gaps}
use Rattle.windows.specs.Starts.{Bounded}
use Rattle.laws.specs.Listed.{Filled}
use Rattle.rounds.specs.Rounds.{demand, raised, after, unchanged, rounds, earliest}
use Rattle.windows.specs.Loops.{above_starts, Given}
use Rattle.rounds.proofs.Rounds.{demand_most, raised_zero, raised_more, raised_ge, raised_demand, raised_le, raised_cong, after_most}

-- what a start and an entry demand with the bias of the entries, and without it
pub demand_entry :
    (gaps : List ℕ) (i k t : ℕ) → Gaps gaps → t < above_starts
    → t + get_or gaps (row_width * i + k) 0 - entry_bias ≡ demand (gap_in gaps) gap_bias i k t
unfolding demand
demand_entry gaps i k t g h =
    elim (dec_lt table_bias (get_or gaps (row_width * i + k) 0)) [
      | yes l ↦ rw (ne_eqb (gap_in gaps i k) 0 (λ e. absurd (omega arith))) (omega arith)
      | no l ↦ rw (eq-eqb (gap_in gaps i k) 0 (omega arith)) (omega (arith, g.low (row_width * i + k) (omega arith)))
    ]

-- A loop over the rows of the table has raised the starts by the orders from the first i steps.
module _ (n : ℕ) (gap : ℕ → ℕ → ℕ) (bias : ℕ) (before : List ℕ) where
  pub rows_start : (at : List ℕ) → at ≡ before → Filled n (raised 0 gap bias (start_in before)) before at
  rows_start at e =
      rw e record { size = refl; below = λ k h. sym (raised_zero n gap bias (start_in before) k); rest = λ k h. refl }

  module _ (i : ℕ) (at : List ℕ) (w : Filled n (raised i gap bias (start_in before)) before at) where
    pub rows_more :
        (next row : List ℕ) → next ≡ row → Filled n (λ k. max (start_in at k) (demand gap bias i k (start_in before i))) at row
        → Filled n (raised (i + 1) gap bias (start_in before)) before next
    rows_more next row e v =
        rw e
        record {
          size = v.size ∙ w.size;
          below = λ k h. omega (arith, v.below k h, w.below k h, raised_more i gap bias (start_in before) k);
          rest = λ k h. v.rest k h ∙ w.rest k h;
        }

    -- a row whose demands are met raises nothing
    pub rows_same :
        (next : List ℕ) → next ≡ at → (last : ℕ → ℕ) → Given n gap bias last (start_in before) → i < n → last i ≡ start_in before i
        → Filled n (raised (i + 1) gap bias (start_in before)) before next
    rows_same next r last g l e =
        rw r
        record {
          size = w.size;
          below = λ k h.
              omega (
                arith,
                w.below k h,
                raised_more i gap bias (start_in before) k,
                raised_ge i gap bias (start_in before) k,
                g.given i k l h e,
              );
          rest = w.rest;
        }

    pub rows_end : i ≤ n → n ≤ i → Filled n (raised n gap bias (start_in before)) before at
    rows_end h g = let q : i ≡ n = omega arith in rw q at w

gap_most_lem : (gaps : List ℕ) → Gaps gaps → (i k : ℕ) → gap_in gaps i k ≤ most_gap
gap_most_lem gaps g i k = omega (arith, g.most (row_width * i + k))

-- no row raises by more than the largest gap
pub rows_bounded :
    (n : ℕ) (gaps before : List ℕ) (i : ℕ) (at : List ℕ) → Gaps gaps → Bounded n (above_starts - 1) before → i ≤ n
    → Filled n (raised i (gap_in gaps) gap_bias (start_in before)) before at
    → Bounded n (above_starts + gap_bias) at
rows_bounded n gaps before i at g b l w =
    record {
      size = w.size ∙ b.size;
      most = λ k h.
          omega (
            arith,
            w.below k h,
            raised_le i (gap_in gaps) gap_bias (start_in before) k (above_starts + gap_bias) (omega (arith, b.most k h)) (λ j m.
                omega (
                  arith,
                  b.most j (omega arith),
                  demand_most (gap_in gaps) gap_bias (most_gap - gap_bias) j k (start_in before j)
                      (gap_most_lem gaps g j k),
                )),
          );
    }

-- The rows that a round may skip: none in the first, and what a round has given stays.
pub given_start :
    (n : ℕ) (gap : ℕ → ℕ → ℕ) (bias : ℕ) (limits : List ℕ) → Bounded n most_limit limits → n ≤ row_width
    → Given n gap bias (start_in (replicate row_width no_latest)) (start_in limits)
given_start n gap bias limits b m =
    record { given = λ i k l h e. absurd (omega (arith, b.most i l, get_or-replicate {A = ℕ} row_width i no_latest 0 (omega arith))) }

pub given_more :
    (n : ℕ) (gap : ℕ → ℕ → ℕ) (bias : ℕ) (starts next : List ℕ) → Filled n (raised n gap bias (start_in starts)) starts next
    → Given n gap bias (start_in starts) (start_in next)
given_more n gap bias starts next v =
    record {
      given = λ i k l h e.
          omega (arith, ap (demand gap bias i k) e, raised_demand n gap bias (start_in starts) k i l, v.below k h);
    }

-- A loop of rounds has, after r of them, the starts of the definition, and each of them changed some start.
pub record Reached (n : ℕ) (gap : ℕ → ℕ → ℕ) (bias : ℕ) (before : List ℕ) (r : ℕ) (starts : List ℕ) : Type 0 where
  pub count : r ≤ n
  pub filled : Filled n (after n gap bias (start_in before) r) before starts
  pub changing : lowest r (λ q. unchanged n gap bias (after n gap bias (start_in before) q)) ≡ r

module _ (n : ℕ) (gap : ℕ → ℕ → ℕ) (bias : ℕ) (before : List ℕ) where
  pub reached_start : Reached n gap bias before 0 before
  unfolding after
  reached_start =
      record {
        count = omega arith;
        filled = record { size = refl; below = λ k h. refl; rest = λ k h. refl };
        changing = lowest_start (λ q. unchanged n gap bias (after n gap bias (start_in before) q));
      }

  filled_earliest :
      (r : ℕ) (starts : List ℕ) → r ≡ rounds n gap bias (start_in before) → Filled n (after n gap bias (start_in before) r) before starts
      → Filled n (earliest n gap bias (start_in before)) before starts
  unfolding earliest
  filled_earliest r starts e w = rw e at w

  -- all rounds are done
  pub reached_end :
      (r : ℕ) (starts : List ℕ) → Reached n gap bias before r starts → n ≤ r
      → (n ≡ rounds n gap bias (start_in before)) × (Filled n (earliest n gap bias (start_in before)) before starts × (n ≤ n))
  unfolding rounds
  reached_end r starts w g =
      let e : n ≡ rounds n gap bias (start_in before) =
      omega (arith, w.count, lowest_end (λ q. unchanged n gap bias (after n gap bias (start_in before) q)) n r w.changing w.count g)
      in
      let q : r ≡ n = omega (arith, w.count) in
      let all : Filled n (after n gap bias (start_in before) n) before starts =
      subst (λ m. Filled n (after n gap bias (start_in before) m) before starts) q w.filled
      in
      (e, (filled_earliest n starts e all, omega arith))

  -- one more round, from starts to next, and whether these are the same
  module _ (r : ℕ) (starts next : List ℕ) (w : Reached n gap bias before r starts) (v : Filled n (raised n gap bias (start_in starts)) starts next) where
    next_below : (k : ℕ) → k < n → start_in next k ≡ raised n gap bias (after n gap bias (start_in before) r) k
    next_below k h =
        v.below k h ∙ raised_cong n gap bias (start_in starts) (after n gap bias (start_in before) r) w.filled.below k h

    filled_next : Filled n (after n gap bias (start_in before) (r + 1)) before next
    unfolding after
    filled_next =
        rw add-one
        record { size = v.size ∙ w.filled.size; below = next_below; rest = λ k h. v.rest k h ∙ w.filled.rest k h }

    same_unchanged : all n (λ k. eqb (start_in next k) (start_in starts k)) ≡ unchanged n gap bias (after n gap bias (start_in before) r)
    unfolding unchanged
    same_unchanged =
        all_cong (λ k. eqb (start_in next k) (start_in starts k))
        (λ k. eqb (raised n gap bias (after n gap bias (start_in before) r) k) (after n gap bias (start_in before) r k)) n
        (λ k h. ap₂ eqb (next_below k h) (w.filled.below k h))

    pub reached_more :
        {same : Bool} → r < n → same ≡ all n (λ k. eqb (start_in next k) (start_in starts k)) → same ≡ false
        → Reached n gap bias before (r + 1) next
    reached_more h q f =
        record {
          count = omega arith;
          filled = filled_next;
          changing = lowest_more (λ q. unchanged n gap bias (after n gap bias (start_in before) q)) r w.changing (q ∙ same_unchanged) f;
        }

    pub reached_last :
        {same : Bool} → r < n → same ≡ all n (λ k. eqb (start_in next k) (start_in starts k)) → same ≡ true
        → (r + 1 ≡ rounds n gap bias (start_in before)) × (Filled n (earliest n gap bias (start_in before)) before next × (r + 1 ≤ n))
    unfolding rounds
    reached_last h q t =
        let e : r + 1 ≡ rounds n gap bias (start_in before) =
        omega (arith, lowest_found (λ q. unchanged n gap bias (after n gap bias (start_in before) q)) n r w.changing h (q ∙ same_unchanged) t)
        in
        (e, (filled_earliest (r + 1) next e filled_next, omega arith))

-- as many rounds as steps, from limits of at most 1,100,001, stay below the bound
pub reached_bounded :
    (n : ℕ) (gaps before : List ℕ) (r : ℕ) (starts : List ℕ) → Gaps gaps → Bounded n most_limit before → n ≤ row_width
    → Reached n (gap_in gaps) gap_bias before r starts
    → Bounded n (above_starts - 1) starts
reached_bounded n gaps before r starts g b h w =
    record {
      size = w.filled.size ∙ b.size;
      most = λ k l.
          omega (
            arith,
            w.count,
            w.filled.below k l,
            after_most n (gap_in gaps) gap_bias (start_in before) most_limit (most_gap - gap_bias) b.most (λ i j l. gap_most_lem gaps g i j) r k l,
          );
    }
