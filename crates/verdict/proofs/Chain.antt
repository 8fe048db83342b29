-- Laws of the chain of checks: what an accepted or a refused verdict so far makes of the next check.
use Prim.Native.Nat.{ℕ, zero, suc, ◌<◌, ◌≤◌}
use mathlib.Core.Path.{◌≡◌, refl, sym, ap, subst, ◌∙◌}
use mathlib.Core.Bool.{Bool, true, false, cond}
use mathlib.Core.Logic.{◌⊎◌, inl, inr, ⊎_elim}
use native.Mathlib.Nat.{not-suc-le-zero}
use native.Mathlib.Decide.{ℕ_discrete, dec_lt}
use native.Mathlib.Omega.{arith}
use borrow.Author.Tests.{eq-eqb, ne_eqb, lt-ltb, le-ltb}
use Rattle.std.specs.Prelude.{Result, Ok, Err, Option, Some, None}
use Rattle.std.specs.Result.{IsErrAnd}
use Rattle.std.proofs.lemmas.Result.{err_from_is_err_and}
use lib.Dec.{ltb}
use Rattle.laws.specs.Search.{lowest, first_where}
use Rattle.laws.proofs.Search.{last_or_below, any_none, any_false, any_lowest, lowest_facts}
use Rattle.verdict.specs.declared.Refusal.{Refusal}
use Rattle.verdict.specs.declared.Refusal.TheVariants.{FileTooShort, UnknownEdition, MarkOutOfRange, CountTooHigh, LayoutDisagrees, RecordOutOfRange, StepAgainstItself, StartsMiscounted}
use Rattle.verdict.specs.declared.Refusal.TheVariants.{FixedStepMoved, EffectsConflict, ConditionFails, LevelOutOfBounds, GoalFails, TimedFactsConflict, NeedUnmet}
use Rattle.verdict.specs.Verdict.{Verdict, Accepted, number, refusal_number, ◌then◌, refuse_if, refuse_lowest}

-- no refusal has number 0
pub refusal_nonzero : (r : Refusal) → refusal_number r ≡ 0 → ⊥
refusal_nonzero FileTooShort e = let z : ◌≡◌ {A = ℕ} 1 0 = e in omega arith
refusal_nonzero UnknownEdition e = let z : ◌≡◌ {A = ℕ} 2 0 = e in omega arith
refusal_nonzero MarkOutOfRange e = let z : ◌≡◌ {A = ℕ} 3 0 = e in omega arith
refusal_nonzero CountTooHigh e = let z : ◌≡◌ {A = ℕ} 4 0 = e in omega arith
refusal_nonzero LayoutDisagrees e = let z : ◌≡◌ {A = ℕ} 5 0 = e in omega arith
refusal_nonzero (RecordOutOfRange k) e = let z : ◌≡◌ {A = ℕ} 6 0 = e in omega arith
refusal_nonzero (StepAgainstItself k) e = let z : ◌≡◌ {A = ℕ} 7 0 = e in omega arith
refusal_nonzero StartsMiscounted e = let z : ◌≡◌ {A = ℕ} 8 0 = e in omega arith
refusal_nonzero (FixedStepMoved k) e = let z : ◌≡◌ {A = ℕ} 9 0 = e in omega arith
refusal_nonzero (EffectsConflict k) e = let z : ◌≡◌ {A = ℕ} 10 0 = e in omega arith
refusal_nonzero (ConditionFails k) e = let z : ◌≡◌ {A = ℕ} 11 0 = e in omega arith
refusal_nonzero (LevelOutOfBounds k) e = let z : ◌≡◌ {A = ℕ} 12 0 = e in omega arith
refusal_nonzero (GoalFails k) e = let z : ◌≡◌ {A = ℕ} 13 0 = e in omega arith
refusal_nonzero (TimedFactsConflict k) e = let z : ◌≡◌ {A = ℕ} 17 0 = e in omega arith
refusal_nonzero (NeedUnmet k) e = let z : ◌≡◌ {A = ℕ} 21 0 = e in omega arith

pub number_zero : (v : Verdict) → number v ≡ 0 → v ≡ Accepted
number_zero (Ok _) e = refl
number_zero (Err r) e = absurd (refusal_nonzero r e)

pub then_refused : (v w : Verdict) → (number v ≡ 0 → ⊥) → v ≡ (v then w)
unfolding ◌then◌
then_refused (Ok _) w h = absurd (h refl)
then_refused (Err _) w h = refl

pub then_accepted : (v w : Verdict) → number v ≡ 0 → w ≡ (v then w)
unfolding ◌then◌
then_accepted (Ok _) w h = refl
then_accepted (Err r) w h = absurd (refusal_nonzero r h)

pub refuse_yes : (v : Refusal) {b : Bool} → b ≡ true → Err v ≡ refuse_if b v
unfolding refuse_if
refuse_yes v e = rw e

pub refuse_no : (v : Refusal) {b : Bool} → b ≡ false → Accepted ≡ refuse_if b v
unfolding refuse_if
refuse_no v e = rw e

-- the search's answer k is the lowest, below the count or not
pub lowest_refused :
    (n : ℕ) (p : ℕ → Bool) (refusal : ℕ → Refusal) {k : ℕ} → k ≡ lowest n p → k < n → Err (refusal k) ≡ refuse_lowest n p refusal
unfolding refuse_lowest
lowest_refused n p refusal {k} e h =
    ap (λ i. Err (refusal i)) e ∙ refuse_yes (refusal (lowest n p)) (lt-ltb (lowest n p) n (rw e at h))

pub lowest_passed :
    (n : ℕ) (p : ℕ → Bool) (refusal : ℕ → Refusal) {k : ℕ} → k ≡ lowest n p → n ≤ k → Accepted ≡ refuse_lowest n p refusal
unfolding refuse_lowest
lowest_passed n p refusal e h = refuse_no (refusal (lowest n p)) (le-ltb (lowest n p) n (rw e at h))

-- the same of a search's answer that says whether it found one
module _ (n : ℕ) (p : ℕ → Bool) (refusal : ℕ → Refusal) where
  abbrev named : Option ℕ → Verdict
  named (Some k) = Err (refusal k)
  named None = Accepted

  either_way : (b : Bool) → named (cond b (Some (lowest n p)) None) ≡ refuse_if b (refusal (lowest n p))
  unfolding refuse_if
  either_way true = refl
  either_way false = refl

  pub some_refused : {k : ℕ} → Some k ≡ first_where n p → Err (refusal k) ≡ refuse_lowest n p refusal
  unfolding first_where refuse_lowest
  some_refused e = ap named e ∙ either_way (ltb (lowest n p) n)

  pub none_refused : None ≡ first_where n p → Accepted ≡ refuse_lowest n p refusal
  unfolding first_where refuse_lowest
  none_refused e = ap named e ∙ either_way (ltb (lowest n p) n)

pub accepted_then : (w : Verdict) → (Accepted then w) ≡ w
unfolding ◌then◌
accepted_then w = refl

-- three checks in a row, of which the first refuses
pub first_refused : (a b c : Verdict) → (number a ≡ 0 → ⊥) → a ≡ (a then b then c)
first_refused a b c h = then_refused a c h ∙ ap (λ v. v then c) (then_refused a b h)

-- a chain that accepts has accepted at each check
pub then_zero : (v w : Verdict) → number (v then w) ≡ 0 → (number v ≡ 0) × (number w ≡ 0)
then_zero v w e =
    elim (ℕ_discrete (number v) 0) [
      | yes z ↦ (z, ap number (then_accepted v w z) ∙ e)
      | no n ↦ absurd (n (ap number (then_refused v w n) ∙ e))
    ]

pub refuse_zero : (b : Bool) (v : Refusal) → number (refuse_if b v) ≡ 0 → b ≡ false
unfolding refuse_if
refuse_zero true v e = absurd (refusal_nonzero v e)
refuse_zero false v e = refl

pub refuse_says : (b : Bool) (v : Refusal) → (number (refuse_if b v) ≡ 0 → ⊥) → b ≡ true
unfolding refuse_if
refuse_says true v h = refl
refuse_says false v h = absurd (h refl)

pub lowest_zero :
    (n : ℕ) (p : ℕ → Bool) (refusal : ℕ → Refusal) → number (refuse_lowest n p refusal) ≡ 0 → (k : ℕ) → k < n → p k ≡ false
unfolding refuse_lowest
lowest_zero n p refusal e = any_false p n (any_lowest p n ∙ refuse_zero _ _ e)

-- and a chain accepts where each check does
pub zero_then : (v w : Verdict) → number v ≡ 0 → number w ≡ 0 → number (v then w) ≡ 0
zero_then v w h g = ap number (sym (then_accepted v w h)) ∙ g

pub zero_refuse : (b : Bool) (v : Refusal) → b ≡ false → number (refuse_if b v) ≡ 0
zero_refuse b v e = ap number (sym (refuse_no v e))

pub zero_lowest :
    (n : ℕ) (p : ℕ → Bool) (refusal : ℕ → Refusal) → ((k : ℕ) → k < n → p k ≡ false) → number (refuse_lowest n p refusal) ≡ 0
unfolding refuse_lowest
zero_lowest n p refusal h = zero_refuse _ (refusal (lowest n p)) (sym (any_lowest p n) ∙ any_none p n h)

-- what `?` hands back of a check that refuses: its refusal
pub handed : {A : Type 0} (result : Result A Refusal) {r : Refusal} → IsErrAnd result (λ x. x ≡ r) → result ≡ Err r
handed result e = let p = err_from_is_err_and result e in p.1 ∙ ap (λ x. Err x) p.2

-- the first of two checks refuses, and so they do; or it passes, and the second decides
pub err_then : (w : Verdict) {v : Verdict} {r : Refusal} → Err r ≡ v → Err r ≡ (v then w)
unfolding ◌then◌
err_then w e = rw (sym e) refl

pub ok_then : {u v w : Verdict} → Accepted ≡ v → u ≡ w → u ≡ (v then w)
unfolding ◌then◌
ok_then e g = rw (sym e) g

-- what holds of two checks' verdicts holds of their chain's, and what holds of a refusal and of acceptance holds of either
pub then_either : (P : Verdict → Type 0) (v w : Verdict) → P v → P w → P (v then w)
then_either P v w h g =
    elim (ℕ_discrete (number v) 0) [
      | yes z ↦ subst P (then_accepted v w z) g
      | no z ↦ subst P (then_refused v w z) h
    ]

pub refuse_either : (P : Verdict → Type 0) (b : Bool) (v : Refusal) → P (Err v) → P Accepted → P (refuse_if b v)
unfolding refuse_if
refuse_either P true v h g = h
refuse_either P false v h g = g

-- a test names no record, or the refusal is of the lowest that it names
pub lowest_outcome :
    (n : ℕ) (p : ℕ → Bool) (refusal : ℕ → Refusal)
    → ((refuse_lowest n p refusal ≡ Accepted) × ((k : ℕ) → k < n → p k ≡ false))
    ⊎ ((k : ℕ) × (k < n) × (p k ≡ true) × ((j : ℕ) → j < k → p j ≡ false) × (refuse_lowest n p refusal ≡ Err (refusal k)))
lowest_outcome n p refusal =
    let f = lowest_facts p n in
    elim (dec_lt (lowest n p) n) [
      | yes l ↦ inr (lowest n p, l, f.2 l, f.1, sym (lowest_refused n p refusal refl l))
      | no l ↦ inl (sym (lowest_passed n p refusal refl (omega arith)), λ k h. f.1 k (omega arith))
    ]

-- the first n of a row of checks, each in its turn
unfoldable pub in_turn : (ℕ → Verdict) → ℕ → Verdict
in_turn check zero = Accepted
in_turn check (suc n) = in_turn check n then check n

-- check j is the first of them that refuses, and its verdict is theirs
pub record FirstRefuses (check : ℕ → Verdict) (n j : ℕ) : Type 0 where
  pub below : j < n
  pub refuses : number (check j) ≡ 0 → ⊥
  pub verdict : in_turn check n ≡ check j
  pub earlier : (i : ℕ) → i < j → number (check i) ≡ 0

module _ (check : ℕ → Verdict) where
  -- every check accepts, or one is the first that refuses
  pub in_turn_lem : (n : ℕ) → ((number (in_turn check n) ≡ 0) × ((k : ℕ) → k < n → number (check k) ≡ 0)) ⊎ ((j : ℕ) × FirstRefuses check n j)
  unfolding in_turn
  in_turn_lem zero = inl (refl, λ k h. absurd (not-suc-le-zero h))
  in_turn_lem (suc n) =
      ⊎_elim
      (λ (a : (number (in_turn check n) ≡ 0) × ((k : ℕ) → k < n → number (check k) ≡ 0)).
      elim (ℕ_discrete (number (check n)) 0) [
        | yes z ↦ inl (
          zero_then (in_turn check n) (check n) a.0 z,
          λ k h. ⊎_elim (λ (q : k ≡ n). ap (λ i. number (check i)) q ∙ z) (λ (l : k < n). a.1 k l) (last_or_below h),
        )
        | no z ↦ inr (
          n,
          record { below = omega arith; refuses = z; verdict = sym (then_accepted (in_turn check n) (check n) a.0); earlier = a.1 },
        )
      ])
      (λ (a : (j : ℕ) × FirstRefuses check n j).
      let f = a.1 in
      let z : number (in_turn check n) ≡ 0 → ⊥ = λ y. f.refuses (sym (ap number f.verdict) ∙ y) in
      inr (
        a.0,
        record {
          below = omega (arith, f.below);
          refuses = f.refuses;
          verdict = sym (then_refused (in_turn check n) (check n) z) ∙ f.verdict;
          earlier = f.earlier;
        },
      ))
      (in_turn_lem n)
