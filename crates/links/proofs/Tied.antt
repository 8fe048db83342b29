-- A tie: how far it goes, how the first place of each step is noted from its last point to its first, and which point is taken.
use Prim.Native.Nat.{ℕ, ◌+◌, ◌-◌, ◌≤◌, ◌<◌}
use mathlib.Core.Path.{◌≡◌, refl, sym, ap, ◌∙◌}
use mathlib.Core.Bool.{true, false, ◌||◌}
use mathlib.Core.List.{List}
use mathlib.Core.Logic.{⊎_elim}
use native.Mathlib.Decide.{dec_lt, ℕ_discrete}
use native.Mathlib.Omega.{arith}
use borrow.Author.Tests.{ltb-true, ltb-false, leb-true, leb-false}
use lib.Dec.{ltb, leb}
use lib.ListN.{length, get_or, set}
use lib.Seq.{get_or-set_same, get_or-set_other}
use Rattle.laws.proofs.Search.{or_out, or_both}
use Rattle.timeline.specs.Words.{step_span, step_at, tick_at}
use Rattle.orders.specs.Supporter.{own_step, lower_number}
use Rattle.links.specs.Tied.{OneTick, Tied, Firsts, TieKnown, TieAt, OwnPlace}

module _ {points : List ℕ} {from : ℕ} where
  -- the next of the same tick goes on with it
  pub tick_more : {end : ℕ} → OneTick points from end → tick_at points end ≡ tick_at points from → OneTick points from (end + 1)
  tick_more {end} so e =
      record {
        same = λ p l i.
            elim (dec_lt p end) [
              | yes j ↦ so.same p l j
              | no j ↦ ap (tick_at points) (let q : p ≡ end = omega arith in q) ∙ e
            ];
      }

-- one more point, before those that are noted, is the first of its step
pub firsts_more :
    {points firsts : List ℕ} {p end step : ℕ} → 0 < p → step ≡ step_at points (p - 1) → step < length firsts → Firsts points p end firsts
    → Firsts points (p - 1) end (set firsts step (p - 1))
firsts_more {points} {firsts} {p} {end} {step} h is room so = record { first = noted }
  where
    after : (q : ℕ) → p - 1 ≤ q → (step_at points q ≡ step → ⊥) → p ≤ q
    after q l e =
        elim (dec_lt q p) [
          | yes j ↦ absurd (e (ap (step_at points) (let same : q ≡ p - 1 = omega arith in same) ∙ sym is))
          | no j ↦ omega arith
        ]

    noted :
        (q : ℕ) → p - 1 ≤ q → q < end
        → (p - 1 ≤ get_or (set firsts step (p - 1)) (step_at points q) 0) × (get_or (set firsts step (p - 1)) (step_at points q) 0 ≤ q)
        × (step_at points (get_or (set firsts step (p - 1)) (step_at points q) 0) ≡ step_at points q)
    noted q l i =
        elim (ℕ_discrete (step_at points q) step) [
          | yes e ↦
              let here : get_or (set firsts step (p - 1)) (step_at points q) 0 ≡ p - 1 =
              ap (λ (k : ℕ). get_or (set firsts step (p - 1)) k 0) e ∙ get_or-set_same firsts step (p - 1) 0 room in
              (omega arith, omega arith, ap (step_at points) here ∙ sym is ∙ sym e)
          | no e ↦
              let there : get_or (set firsts step (p - 1)) (step_at points q) 0 ≡ get_or firsts (step_at points q) 0 =
              get_or-set_other firsts step (step_at points q) (p - 1) 0 e in
              let first = so.first q (after q l e) i in
              (omega (arith, first.0), omega (arith, first.1), ap (step_at points) there ∙ first.2)
        ]

-- a tie of no points
pub tie_empty :
    {points firsts : List ℕ} {high run : ℕ} → length firsts ≡ step_span → run ≤ length points
    → TieKnown points high (record { from = run; end = run }) firsts
tie_empty size h =
    record {
      noted = record { begins = omega arith; ends = h; size = size; several = λ i. absurd (omega arith) };
      whole = λ i. absurd (omega arith);
    }

module _ {points : List ℕ} {high run : ℕ} (room : high ≤ length points) where
  -- no point stands there
  pub tie_none :
      {firsts : List ℕ} → length firsts ≡ step_span → run ≤ high → high ≤ run
      → TieAt points high run (record { from = run; end = run }) firsts
  tie_none size h l = record { known = tie_empty size (omega arith); begins = refl; some = λ i. absurd (omega arith) }

  pub tie_found :
      {end : ℕ} {firsts : List ℕ} → length firsts ≡ step_span → Tied points run high end → (run + 1 < end → Firsts points run end firsts)
      → TieAt points high run (record { from = run; end = end }) firsts
  tie_found size tied noted =
      record {
        known =
            record {
              noted = record { begins = omega (arith, tied.some); ends = omega (arith, tied.to); size = size; several = noted };
              whole = λ _. tied;
            };
        begins = refl;
        some = λ _. tied.some;
      }

-- the test whether a place stands beside a tie
pub beside : (from end r : ℕ) → (ltb r from || leb end r) ≡ true → from ≤ r → r < end → ⊥
beside from end r t l h =
    ⊎_elim
    (λ (a : ltb r from ≡ true). omega (arith, ltb-true r from a))
    (λ (a : leb end r ≡ true). omega (arith, leb-true end r a))
    (or_out _ _ t)

pub within : (from end r : ℕ) → (ltb r from || leb end r) ≡ false → (from ≤ r) × (r < end)
within from end r t = let b = or_both _ _ t in (ltb-false r from b.0, leb-false end r b.1)

module _ {points : List ℕ} {from end step : ℕ} where
  module _ {firsts : List ℕ} (noted : Firsts points from end firsts) {r : ℕ} (is : r ≡ get_or firsts step 0) where
    -- a point of the own step is noted by its step's first place
    own_noted :
        (p : ℕ) → from ≤ p → p < end → step_at points p ≡ step → (from ≤ r) × (r ≤ p) × (step_at points r ≡ step)
    own_noted p l i e =
        let at : get_or firsts (step_at points p) 0 ≡ r = ap (λ (k : ℕ). get_or firsts k 0) e ∙ sym is in
        let first = noted.first p l i in
        (omega (arith, first.0), omega (arith, first.1), ap (step_at points) (sym at) ∙ first.2 ∙ e)

    -- the first of the own step is taken
    pub own_first : from ≤ r → r < end → step_at points r ≡ step → OwnPlace points from end step r
    own_first l h e =
        record {
          begins = l;
          ends = λ _. h;
          first = λ p j k.
              elim (ℕ_discrete (step_at points p) step) [
                | yes o ↦ lower_number (λ _. e) (own_noted p j k o).1
                | no o ↦ own_step e o
              ];
        }

    -- or the first of all, where none is of the own step
    pub own_none : (from ≤ r → r < end → step_at points r ≡ step → ⊥) → OwnPlace points from end step from
    own_none none =
        record {
          begins = omega arith;
          ends = λ i. i;
          first = λ p j k.
              lower_number
              (λ o. let first = own_noted p j k o in absurd (none first.0 (omega (arith, first.1)) first.2)) j;
        }
