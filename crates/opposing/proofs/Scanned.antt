-- Scans along the points of a group: what they pass, and what they find.
use Prim.Native.Nat.{ℕ, ◌≤◌, ◌<◌}
use mathlib.Core.Path.{◌≡◌, refl, ap, ap₂}
use mathlib.Core.Bool.{Bool, true, false, not, ◌&&◌}
use mathlib.Core.List.{List}
use native.Mathlib.Decide.{dec_lt}
use native.Mathlib.Omega.{arith}
use borrow.Author.Tests.{eqb-false, not-true, ne_eqb}
use lib.ListN.{get_or}
use Rattle.laws.proofs.Search.{contrary, and_both}
use Rattle.timeline.specs.Words.{word_step, word_value, tick_at}
use Rattle.opposing.specs.Against.{against, Rising, Scanned, Past}

pub against_out : (word value step : ℕ) → against word value step ≡ true → (word_step word ≡ step → ⊥) × (word_value word ≡ value → ⊥)
unfolding against
against_out word value step t =
    let b = and_both _ _ t in (eqb-false _ _ (not-true _ b.0), eqb-false _ _ (not-true _ b.1))

pub against_in : (word value step : ℕ) → (word_step word ≡ step → ⊥) → (word_value word ≡ value → ⊥) → against word value step ≡ true
unfolding against
against_in word value step s v = ap₂ ◌&&◌ (ap not (ne_eqb _ _ s)) (ap not (ne_eqb _ _ v))

-- no place from one up to another passes a test
pub record Passed (test : ℕ → Bool) (low place : ℕ) : Type 0 where
  pub from : low ≤ place
  pub none : (p : ℕ) → low ≤ p → p < place → test p ≡ false

module _ {test : ℕ → Bool} {low : ℕ} where
  pub passed_start : {place : ℕ} → place ≡ low → Passed test low place
  passed_start e = record { from = omega arith; none = λ p l g. absurd (omega arith) }

-- A scan for a point that stands against a value and a step, up to a last tick.
module _ {points : List ℕ} {value step low place : ℕ} (so : Passed (λ p. against (get_or points p 0) value step) low place) {high last : ℕ} where
  -- what stands from the place on is after the last tick
  pub scan_ends : ((p : ℕ) → place ≤ p → p < high → last < tick_at points p) → Scanned points low high last value step false
  scan_ends late =
      record {
        hit = λ t. contrary t refl;
        none = λ _ p l g early.
            elim (dec_lt p place) [ yes i ↦ so.none p l i | no i ↦ let k : last < tick_at points p = late p (omega arith) g in absurd (omega arith) ];
      }

-- where the first point lies after the last tick, all do
pub rising_past :
    (points : List ℕ) (from high last : ℕ) → Rising points from high → last < tick_at points from → Past points from high last
rising_past points from high last rises past p l g =
    elim (dec_lt from p) [
      | yes i ↦ let up : tick_at points from ≤ tick_at points p = rises from p (omega arith) i g in omega arith
      | no i ↦ let e : tick_at points p ≡ tick_at points from = ap (tick_at points) (let q : p ≡ from = omega arith in q) in omega arith
    ]
